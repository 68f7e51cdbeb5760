-- A message of the right shape, written out, is read back to its tree.
use Rattle.std.specs.Prelude.{◌≡◌, Bool, true, false, ◌||◌, not}
use Rattle.std.proofs.Math.Path.{refl, ap}
use Rattle.std.proofs.Common.{sym, ◌∙◌, arith, add-zero}
use Rattle.std.proofs.Math.Bool.{or-true}
use Rattle.std.proofs.lemmas.Bool.{false≢true, not-true}
use mathlib.Core.List.{List, [], ◌∷◌, ◌++◌, append_assoc, append-nil}
use Rattle.std.proofs.Math.Option.{Option, none, some}
use Prim.Native.Nat.{ℕ, ◌+◌, ◌-◌, ◌≤◌}
use Rattle.std.proofs.Math.Dec.{eqb-suc-zero}
use Rattle.std.proofs.Math.ListN.{length, length-append}
use Rattle.lists.specs.Below.{bit}
use Rattle.rules.specs.Book.{Meaning, out_of_range}
use Rattle.rules.specs.State.{attribute}
use Rattle.rules.specs.Tree.{Forest, childless, tree, Content, Node}
use Rattle.rules.specs.Message.{most_open, start, end, text, Level, Reading, events, message, stage_after, start_refusal}
use Rattle.rules.specs.Asked.{growing, read_tree}
use Rattle.rules.specs.Written.{in_range_for, written_start, written_end, written_text, written, has_element, is_childless, is_none, shaped, one_element, message_shaped}
use Rattle.rules.proofs.Message.Events.{size_of, events_on, events_ended}
use Rattle.rules.proofs.Written.Shape.{Shape, Whole, shape_is, whole_is, one_has, text_or_elements, holds_children}
use Rattle.rules.proofs.Message.Refusals.{stage_of, start_allowed, text_allowed, end_allowed, last_allowed}

-- the nodes of some children, in the order in which they close
unfoldable pub closed_nodes : Forest → List Node
closed_nodes childless = []
closed_nodes (tree f x t kids) = closed_nodes f ++ (closed_nodes kids ++ record { label = x; content = record { text = t; children = kids } } ∷ [])

-- the state of reading a tree
abbrev pub Standing : Type 0
Standing = Reading Content (List Node)

-- at place p, in a level with this label, stage, text and children
abbrev pub standing : ℕ → ℕ → ℕ → Option (List ℕ) → Forest → List (Level Content) → List Node → Standing
standing p l s t f under ns = record { place = p; top = record { label = l; stage = s; held = record { text = t; children = f } }; under = under; state = ns }

pub stage_after_lem : (f : Forest) (x : ℕ) (t : Option (List ℕ)) (kids : Forest) → stage_after (attribute x) (bit (has_element f)) ≡ bit (has_element (tree f x t kids))
unfolding has_element
stage_after_lem f x t kids = go (attribute x)
  where
    go : (a : Bool) → stage_after a (bit (has_element f)) ≡ bit (not a || has_element f)
    go true = refl
    go false = refl

-- B: what the book means to the message
module _ (B : Meaning) where
  -- a text after the children
  text_reads : (p x : ℕ) (t : Option (List ℕ)) (kids : Forest) (u : Level Content) (us : List (Level Content)) (ns : List Node) (z : List ℕ) →
      is_none t || not (has_element kids) ≡ true → in_range_for B t ≡ true →
      events (growing B) (written_text t ++ z) 0 (standing p x (stage_of none kids) none kids (u ∷ us) ns) ≡
      events (growing B) z 0 (standing (p + length (written_text t)) x (stage_of t kids) t kids (u ∷ us) ns)
  text_reads p x none kids u us ns z e h = rw add-zero
  text_reads p x (some s) kids u us ns z e h =
      let n : has_element kids ≡ false = not-true (has_element kids) e in
      let o : out_of_range B s ≡ false = not-true (out_of_range B s) h in
      rw n (events_on (growing B) (text s) z _ (standing (p + size_of (text s)) x 2 (some s) kids (u ∷ us) ns) (rw (text_allowed (length us) (out_of_range B s) o)))

  -- these children are read in a level with label l over these levels
  abbrev pub ReadsInto : Forest → ℕ → List (Level Content) → Type 0
  ReadsInto f l under = (p : ℕ) (ns : List Node) (z : List ℕ) →
      events (growing B) (written f ++ z) 0 (standing p l 0 none childless under ns) ≡
      events (growing B) z 0 (standing (p + length (written f)) l (stage_of none f) none f under (ns ++ closed_nodes f))

  childless_reads : (l : ℕ) (under : List (Level Content)) → ReadsInto childless l under
  unfolding written has_element closed_nodes
  childless_reads l under p ns z = rw (add-zero, append-nil)

  -- one child more
  child_reads : (f : Forest) (x : ℕ) (t : Option (List ℕ)) (kids : Forest) (l : ℕ) (us : List (Level Content)) →
      start_refusal (length us) l (stage_of none f) x ≡ 0 → is_none t || not (has_element kids) ≡ true → in_range_for B t ≡ true →
      ReadsInto f l us → ((u : Level Content) → ReadsInto kids x (u ∷ us)) → ReadsInto (tree f x t kids) l us
  unfolding written closed_nodes
  child_reads f x t kids l us e i h before inner p ns z =
      let q : ℕ = p + length (written f) in
      let ms : List Node = ns ++ closed_nodes f in
      let after : List ℕ = written_end x ++ z in
      let u : Level Content = record { label = l; stage = stage_after (attribute x) (stage_of none f); held = record { text = none; children = f } } in
      let n : Node = record { label = x; content = record { text = t; children = kids } } in
      let w : (written f ++ (written_start x ++ (written kids ++ (written_text t ++ written_end x)))) ++ z ≡ written f ++ (written_start x ++ (written kids ++ (written_text t ++ after)))
      = simp append_assoc in
      let k : q + 3 + length (written kids) + length (written_text t) + 3 ≡ p + length (written (tree f x t kids)) = simp length-append (omega arith) in
      let m : (ms ++ closed_nodes kids) ++ n ∷ [] ≡ ns ++ closed_nodes (tree f x t kids) = simp append_assoc in
      ap (λ b. events (growing B) b 0 (standing p l 0 none childless us ns)) w
      ∙ before p ns (written_start x ++ (written kids ++ (written_text t ++ after)))
      ∙ events_on (growing B) (start x) (written kids ++ (written_text t ++ after)) (standing q l (stage_of none f) none f us ms) (standing (q + 3) x 0 none childless (u ∷ us) ms) (rw e)
      ∙ inner u (q + 3) ms (written_text t ++ after)
      ∙ text_reads (q + 3 + length (written kids)) x t kids u us (ms ++ closed_nodes kids) after i h
      ∙ events_on (growing B) (end x) z (standing (q + 3 + length (written kids) + length (written_text t)) x (stage_of t kids) t kids (u ∷ us) (ms ++ closed_nodes kids))
      (standing (q + 3 + length (written kids) + length (written_text t) + 3) l u.stage none (tree f x t kids) us ((ms ++ closed_nodes kids) ++ n ∷ []))
      (rw (end_allowed (length us) x))
      ∙ rw (k, m, stage_after_lem f x t kids)

  -- children of the right shape are read in an open element; in an open attribute there are none
  reads : (f : Forest) (room l : ℕ) (u : Level Content) (us : List (Level Content)) → is_childless f || not (attribute l) ≡ true → room + length (u ∷ us) ≡ most_open → shaped B room f ≡ true →
      ReadsInto f l (u ∷ us)
  reads childless room l u us a d e = childless_reads l (u ∷ us)
  reads (tree f x t kids) room l u us a d e =
      let s : Shape B room f x t kids = shape_is f x t kids B room e in
      let n : 1 ≤ room = s.left in
      child_reads f x t kids l (u ∷ us)
      (start_allowed (length (u ∷ us)) l x f t kids (not-true (attribute l) a) (omega arith) (rw eqb-suc-zero) s.child)
      (text_or_elements s.child) s.ranged
      (reads f room l u us (rw a (or-true (is_childless f))) d s.before)
      (λ v. reads kids (room - 1) x v (u ∷ us) (holds_children s.child) (omega arith) s.inside)

  -- so is the top element
  top_reads : (f : Forest) → one_element f ≡ true → shaped B most_open f ≡ true → ReadsInto f 0 []
  unfolding one_element
  top_reads childless e h = absurd (false≢true e)
  top_reads (tree (tree g y s inner) x t kids) e h = absurd (false≢true e)
  top_reads (tree childless x t kids) e h =
      let s : Shape B most_open childless x t kids = shape_is childless x t kids B most_open h in
      child_reads childless x t kids 0 []
      (start_allowed 0 0 x childless t kids refl (omega arith) e s.child)
      (text_or_elements s.child) s.ranged
      (childless_reads 0 [])
      (λ v. reads kids 63 x v [] (holds_children s.child) refl s.inside)

  -- a message of the right shape, written out, is read back to its tree
  pub read_tree_lem : (root : Content) → message_shaped B root ≡ true →
      read_tree B (written root.children) ≡ record { refusal = 0; place = 0; root = root; state = closed_nodes root.children }
  unfolding read_tree message
  read_tree_lem root e =
      let w : Whole B root = whole_is B root e in
      let f : Forest = root.children in
      ap (λ b. events (growing B) b 0 (standing 0 0 0 none childless [] [])) (sym (append-nil (written f)))
      ∙ top_reads f w.one w.inside 0 [] []
      ∙ events_ended (growing B) (standing (0 + length (written f)) 0 (stage_of none f) none f [] (closed_nodes f))
      ∙ rw (last_allowed f (one_has f w.one), w.textless)
