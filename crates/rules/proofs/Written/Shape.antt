-- The parts of a tree's shape. Section "Day file", a message.
use Rattle.std.specs.Prelude.{◌≡◌, Bool, ◌||◌, ◌&&◌, List, ℕ, ◌-◌, ◌<◌, ◌≤◌, eqb, leb}
use Rattle.std.proofs.Math.Path.{refl}
use Rattle.std.proofs.Math.Bool.{true, false, not, or-true}
use Rattle.std.proofs.lemmas.Bool.{false≢true}
use Rattle.std.proofs.Math.Option.{Option, none, some}
use Rattle.std.proofs.Common.{arith}
use Rattle.std.proofs.Math.Dec.{ltb}
use borrow.Author.Tests.{leb-true, ltb-true, ne_eqb, lt-ltb, le-leb, not-true}
use Rattle.lists.specs.Choice.{pick}
use Rattle.lists.specs.Choice.Laws.{both}
use Rattle.rules.specs.State.{label_limit, any_attribute, attribute}
use Rattle.rules.specs.Book.{Meaning}
use Rattle.rules.specs.Message.{most_open}
use Rattle.rules.specs.Tree.{Forest, childless, tree, Content}
use Rattle.rules.specs.Written.{has_element, is_childless, text_fits, in_range_for, is_none, child_fits, shaped, one_element, message_shaped}

-- ── the parts of a shape ──
-- the two ways for a child to fit
pub data Child (f : Forest) (x : ℕ) (t : Option (List ℕ)) (kids : Forest) : Type 0 where
  an_attribute : attribute x ≡ true → x < label_limit → has_element f ≡ false → is_childless kids ≡ true → Child f x t kids
  an_element : attribute x ≡ false → 1 ≤ x → x < any_attribute → is_none t || not (has_element kids) ≡ true → Child f x t kids

-- a forest with a last child; B: what the book means to the message
pub record Shape (B : Meaning) (room : ℕ) (f : Forest) (x : ℕ) (t : Option (List ℕ)) (kids : Forest) : Type 0 where
  pub before : shaped B room f ≡ true
  pub left : 1 ≤ room
  pub child : Child f x t kids
  pub said : text_fits t ≡ true
  pub ranged : in_range_for B t ≡ true
  pub inside : shaped B (room - 1) kids ≡ true

module _ (f : Forest) (x : ℕ) (t : Option (List ℕ)) (kids : Forest) where
  child_is : child_fits f x t kids ≡ true → Child f x t kids
  unfolding pick
  child_is e = go (attribute x) refl e
    where
      go : (a : Bool) → attribute x ≡ a →
          pick a (ltb x label_limit && not (has_element f) && is_childless kids) (leb 1 x && ltb x any_attribute && (is_none t || not (has_element kids))) ≡ true → Child f x t kids
      go true a h =
          let p = both (ltb x label_limit && not (has_element f)) (is_childless kids) h in
          let q = both (ltb x label_limit) (not (has_element f)) p.0 in
          an_attribute a (ltb-true x label_limit q.0) (not-true (has_element f) q.1) p.1
      go false a h =
          let p = both (leb 1 x && ltb x any_attribute) (is_none t || not (has_element kids)) h in
          let q = both (leb 1 x) (ltb x any_attribute) p.0 in
          an_element a (leb-true 1 x q.0) (ltb-true x any_attribute q.1) p.1

  child_fits_lem : Child f x t kids → child_fits f x t kids ≡ true
  unfolding pick
  child_fits_lem (an_attribute a b h k) = rw (a, lt-ltb x label_limit b, h, k)
  child_fits_lem (an_element a l b k) = rw (a, le-leb 1 x l, lt-ltb x any_attribute b, k)

  pub shape_is : (B : Meaning) (room : ℕ) → shaped B room (tree f x t kids) ≡ true → Shape B room f x t kids
  unfolding shaped
  shape_is B room e =
      let a = both (shaped B room f) _ e in
      let b = both (leb 1 room) _ a.1 in
      let c = both (child_fits f x t kids) _ b.1 in
      let d = both (text_fits t) _ c.1 in
      let r = both (in_range_for B t) _ d.1 in
      record { before = a.0; left = leb-true 1 room b.0; child = child_is c.0; said = d.0; ranged = r.0; inside = r.1 }

  pub shape_fits : (B : Meaning) (room : ℕ) → Shape B room f x t kids → shaped B room (tree f x t kids) ≡ true
  unfolding shaped
  shape_fits B room s = rw (s.before, le-leb 1 room s.left, child_fits_lem s.child, s.said, s.ranged, s.inside)

pub no_element : (f : Forest) → is_childless f ≡ true → has_element f ≡ false
unfolding has_element
no_element childless e = refl
no_element (tree f x t kids) e = absurd (false≢true e)

pub one_has : (f : Forest) → one_element f ≡ true → has_element f ≡ true
unfolding one_element has_element
one_has childless e = e
one_has (tree f x t kids) e = rw (both (is_childless f) (not (attribute x)) e).1

module _ {f : Forest} {x : ℕ} {t : Option (List ℕ)} {kids : Forest} where
  pub text_or_elements : Child f x t kids → is_none t || not (has_element kids) ≡ true
  text_or_elements (an_attribute a b h k) = rw (no_element kids k) (or-true (is_none t))
  text_or_elements (an_element a l b k) = k

  pub holds_children : Child f x t kids → is_childless kids || not (attribute x) ≡ true
  holds_children (an_attribute a b h k) = rw k
  holds_children (an_element a l b k) = rw a (or-true (is_childless kids))

  pub attributes_first : Child f x t kids → not (attribute x) || not (has_element f) ≡ true
  attributes_first (an_attribute a b h k) = rw (a, h)
  attributes_first (an_element a l b k) = rw a

  pub label_fits : Child f x t kids → eqb x 0 || eqb x any_attribute ≡ false
  label_fits (an_attribute a b h k) = let l : any_attribute < x = ltb-true any_attribute x a in rw (ne_eqb x 0 (λ e. omega arith), ne_eqb x any_attribute (λ e. omega arith))
  label_fits (an_element a l b k) = rw (ne_eqb x 0 (λ e. omega arith), ne_eqb x any_attribute (λ e. omega arith))

-- a message
pub record Whole (B : Meaning) (root : Content) : Type 0 where
  pub textless : root.text ≡ none
  pub one : one_element root.children ≡ true
  pub inside : shaped B most_open root.children ≡ true

none_is : (t : Option (List ℕ)) → is_none t ≡ true → t ≡ none
none_is none e = refl
none_is (some s) e = absurd (false≢true e)

pub whole_is : (B : Meaning) (root : Content) → message_shaped B root ≡ true → Whole B root
unfolding message_shaped
whole_is B root e =
    let a = both (is_none root.text) _ e in
    let b = both (one_element root.children) _ a.1 in
    record { textless = none_is root.text a.0; one = b.0; inside = b.1 }

pub whole_fits : (B : Meaning) (root : Content) → Whole B root → message_shaped B root ≡ true
unfolding message_shaped
whole_fits B root w = rw (w.textless, w.one, w.inside)
