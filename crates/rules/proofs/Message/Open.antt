-- What has been read at any time is the open levels written out, and they have their shape.
use Rattle.std.specs.Prelude.{◌≡◌, true, false, ltb}
use Rattle.std.proofs.Math.Path.{refl, ap, subst}
use Rattle.std.proofs.Common.{sym, ◌∙◌, true≢false, ltb-true}
use mathlib.Core.List.{List, [], ◌∷◌, ◌++◌, append_assoc, append-nil}
use Rattle.std.proofs.Math.Option.{Option, none, some}
use Prim.Native.Nat.{ℕ, suc, ◌+◌, ◌-◌, ◌<◌}
use native.Mathlib.Omega.{arith}
use Rattle.std.proofs.Math.Dec.{eqb-suc-zero}
use Rattle.std.proofs.Math.ListN.{length, length-append}
use Rattle.rules.specs.Book.{Meaning, out_of_range}
use Rattle.rules.specs.State.{label_limit, attribute}
use Rattle.rules.specs.Tree.{Forest, childless, tree, Content, Node}
use Rattle.rules.specs.Message.{most_open, Event, start, end, text, Level, on, begin, on_event, stage_after, start_refusal, text_refusal, end_refusal}
use Rattle.rules.specs.Asked.{growing}
use Rattle.rules.specs.Written.{text_limit, in_range_for, written_start, written_end, written_text, written, has_element, text_fits, shaped, one_element, written_event, written_events}
use Rattle.rules.proofs.Message.Events.{event_fits, size_of, Follows, unless_on}
use Rattle.rules.proofs.Written.Shape.{Child, an_attribute, an_element, Shape, shape_fits}
use Rattle.rules.proofs.Message.Refusals.{stage_of, root_fits, top_fits, Started, start_known, Said, text_known, end_known}
use Rattle.rules.proofs.Written.Laws.{Standing, standing, stage_after_lem}

child_said : {f : Forest} {x : ℕ} {kids : Forest} (s : List ℕ) → has_element kids ≡ false → Child f x none kids → Child f x (some s) kids
child_said s h (an_attribute a b c k) = an_attribute a b c k
child_said s h (an_element a l b k) = an_element a l b (rw h)

child_grows : {f : Forest} {x : ℕ} {t : Option (List ℕ)} {kids : Forest} (more : Forest) → attribute x ≡ false → t ≡ none → Child f x t kids → Child f x t more
child_grows more a e (an_attribute b c h k) = absurd (true≢false (sym b ∙ a))
child_grows more a e (an_element b l c k) = an_element b l c (rw e)

-- ── what has been read ──
-- all before the children of the innermost level
unfoldable pub opened : ℕ → List (Level Content) → List ℕ
opened x [] = []
opened x (l ∷ ls) = opened l.label ls ++ (written l.held.children ++ written_start x)

abbrev pub so_far : Standing → List ℕ
so_far r = opened r.top.label r.under ++ (written r.top.held.children ++ written_text r.top.held.text)

start_joins : (o w e : List ℕ) → (o ++ (w ++ e)) ++ [] ≡ (o ++ (w ++ [])) ++ e
start_joins o w e = simp (append_assoc, append-nil)

pub end_joins : (o : List ℕ) (g f : Forest) (l : ℕ) (t u : Option (List ℕ)) → u ≡ none →
    o ++ (written (tree g l t f) ++ written_text u) ≡ ((o ++ (written g ++ written_start l)) ++ (written f ++ written_text t)) ++ written_end l
unfolding written
end_joins o g f l t u e = rw e (simp (append_assoc, append-nil))

-- B: what the book means to the message
module _ (B : Meaning) where
  -- ── the levels that are open ──
  -- level l, with `depth` levels under it, holds a child x that is open, with this text and these children so far
  pub record Holds (l : Level Content) (depth x : ℕ) (t : Option (List ℕ)) (kids : Forest) : Type 0 where
    pub shape : Shape B (most_open - depth) l.held.children x t kids
    pub stage : l.stage ≡ stage_after (attribute x) (stage_of none l.held.children)
    pub element : attribute l.label ≡ false
    pub textless : l.held.text ≡ none
    pub top : top_fits depth l.held.children x ≡ true

  -- the root's level
  pub record Root (t : Option (List ℕ)) (kids : Forest) : Type 0 where
    pub textless : t ≡ none
    pub fits : root_fits 0 kids ≡ true
    pub inside : shaped B most_open kids ≡ true

  -- the innermost level, over the others
  unfoldable pub Open : ℕ → Option (List ℕ) → Forest → List (Level Content) → Type 0
  Open x t kids [] = Root t kids
  Open x t kids (l ∷ ls) = Holds l (length ls) x t kids × Open l.label l.held.text l.held.children ls

  kids_shaped : (x : ℕ) (t : Option (List ℕ)) (kids : Forest) (us : List (Level Content)) → Open x t kids us → shaped B (most_open - length us) kids ≡ true
  unfolding Open
  kids_shaped x t kids [] o = o.inside
  kids_shaped x t kids (l ∷ ls) o = let e : most_open - suc (length ls) ≡ most_open - length ls - 1 = omega arith in rw e o.0.shape.inside

  root_known : (x : ℕ) (t : Option (List ℕ)) (kids : Forest) (us : List (Level Content)) → Open x t kids us → root_fits (length us) kids ≡ true
  unfolding Open
  root_known x t kids [] o = o.fits
  root_known x t kids (l ∷ ls) o = rw eqb-suc-zero

  -- ── what an event does to them ──
  start_opens : (l s : ℕ) (t : Option (List ℕ)) (f : Forest) (us : List (Level Content)) (x : ℕ) → s ≡ stage_of t f → Open l t f us → x < label_limit → start_refusal (length us) l s x ≡ 0 →
      Open x none childless (record { label = l; stage = stage_after (attribute x) s; held = record { text = t; children = f } } ∷ us)
  unfolding Open shaped
  start_opens l s t f us x q o b e =
      let k : Started (length us) l x t f = start_known (length us) l x t f b (root_known l t f us o) (rw q at e) in
      let d : length us < most_open = k.room in (
        record {
          shape = record { before = kids_shaped l t f us o; left = omega arith; child = k.child; said = refl; ranged = refl; inside = refl };
          stage = ap (stage_after (attribute x)) (q ∙ ap (λ u. stage_of u f) k.textless);
          element = k.element;
          textless = k.textless;
          top = k.top;
        },
        o,
      )

  -- the open child with another text or other children
  holds_as : {l : Level Content} {depth x : ℕ} {t u : Option (List ℕ)} {kids more : Forest} → Holds l depth x t kids → Child l.held.children x u more → text_fits u ≡ true → in_range_for B u ≡ true →
      shaped B (most_open - depth - 1) more ≡ true → Holds l depth x u more
  holds_as h c s v i = record {
    shape = record { before = h.shape.before; left = h.shape.left; child = c; said = s; ranged = v; inside = i };
    stage = h.stage;
    element = h.element;
    textless = h.textless;
    top = h.top;
  }

  text_opens : (x : ℕ) (t : Option (List ℕ)) (kids : Forest) (us : List (Level Content)) (s : List ℕ) → Open x t kids us → ltb (length s) text_limit ≡ true →
      Said (length us) (out_of_range B s) t kids → Open x (some s) kids us
  unfolding Open
  text_opens x t kids [] s o b k = absurd (true≢false k.deep)
  text_opens x t kids (l ∷ ls) s o b k =
      (holds_as o.0 (child_said s k.childless (rw k.textless at o.0.shape.child)) b k.fits o.0.shape.inside, o.1)

  pub end_opens : (x : ℕ) (t : Option (List ℕ)) (kids : Forest) (l : Level Content) (ls : List (Level Content)) → Open x t kids (l ∷ ls) →
      Open l.label l.held.text (tree l.held.children x t kids) ls
  unfolding Open one_element
  end_opens x t kids l [] o =
      record { textless = o.1.textless; fits = o.0.top; inside = shape_fits l.held.children x t kids B most_open o.0.shape }
  end_opens x t kids l (u ∷ us) o =
      let e : most_open - length us - 1 ≡ most_open - suc (length us) = omega arith in (
        holds_as o.1.0 (child_grows (tree l.held.children x t kids) o.0.element o.0.textless o.1.0.shape.child) o.1.0.shape.said o.1.0.shape.ranged
            (rw e (shape_fits l.held.children x t kids B (most_open - suc (length us)) o.0.shape)),
        o.1.1,
      )

  -- r is where reading these bytes leads
  pub record Sound (r : Standing) (bytes : List ℕ) : Type 0 where
    pub stage : r.top.stage ≡ stage_of r.top.held.text r.top.held.children
    pub levels : Open r.top.label r.top.held.text r.top.held.children r.under
    pub bytes_are : so_far r ≡ bytes
    pub place_is : r.place ≡ length bytes

  start_keeps : (r r' : Standing) (bytes : List ℕ) (x : ℕ) → Sound r bytes → ltb x label_limit ≡ true → on_event (growing B) r 3 (start x) ≡ on r' → Sound r' (bytes ++ written_start x)
  unfolding Open opened written has_element
  start_keeps r r' bytes x k b e =
      let u = unless_on (start_refusal (length r.under) r.top.label r.top.stage x) _ r' e in
      let o = start_opens r.top.label r.top.stage r.top.held.text r.top.held.children r.under x k.stage k.levels (ltb-true x label_limit b) u.0 in
      subst (λ q. Sound q (bytes ++ written_start x)) u.1 (record {
        stage = refl;
        levels = o;
        bytes_are = rw (← k.bytes_are, o.0.textless) (start_joins (opened r.top.label r.under) (written r.top.held.children) (written_start x));
        place_is = rw length-append (ap (λ n. n + 3) k.place_is);
      })

  text_keeps : (r r' : Standing) (bytes s : List ℕ) → Sound r bytes → ltb (length s) text_limit ≡ true → on_event (growing B) r (size_of (text s)) (text s) ≡ on r' → Sound r' (bytes ++ written_text (some s))
  text_keeps r r' bytes s k b e =
      let u = unless_on (text_refusal (length r.under) r.top.stage (out_of_range B s)) _ r' e in
      let a = text_known (length r.under) (out_of_range B s) r.top.held.text r.top.held.children (rw k.stage at u.0) in
      subst (λ q. Sound q (bytes ++ written_text (some s))) u.1 (record {
        stage = refl;
        levels = text_opens r.top.label r.top.held.text r.top.held.children r.under s k.levels b a;
        bytes_are = rw (← k.bytes_are, a.textless) (simp (append_assoc, append-nil));
        place_is = rw length-append (ap (λ n. n + size_of (text s)) k.place_is);
      })

  end_keeps : (p l s : ℕ) (t : Option (List ℕ)) (f : Forest) (us : List (Level Content)) (ns : List Node) (r : Standing) (bytes : List ℕ) (x : ℕ) →
      Sound (standing p l s t f us ns) bytes → on_event (growing B) (standing p l s t f us ns) 3 (end x) ≡ on r → Sound r (bytes ++ written_end x)
  unfolding Open opened
  end_keeps p l s t f [] ns r bytes x k e = absurd (true≢false (end_known 0 l x (unless_on (end_refusal 0 l x) _ r e).0).0)
  end_keeps p l s t f (v ∷ us) ns r bytes x k e =
      let u = unless_on (end_refusal (length (v ∷ us)) l x) _ r e in
      let a = end_known (length (v ∷ us)) l x u.0 in
      let h = k.levels.0 in
      subst (λ q. Sound q (bytes ++ written_end x)) u.1 (record {
        stage = h.stage ∙ stage_after_lem v.held.children l t f ∙ ap (λ i. stage_of i (tree v.held.children l t f)) (sym h.textless);
        levels = end_opens l t f v us k.levels;
        bytes_are = rw (← k.bytes_are, a.1) (end_joins (opened v.label us) v.held.children f l t v.held.text h.textless);
        place_is = rw length-append (ap (λ n. n + 3) k.place_is);
      })

  -- an event that leads on
  pub event_keeps : (ev : Event) (r r' : Standing) (bytes : List ℕ) → Sound r bytes → event_fits ev ≡ true → on_event (growing B) r (size_of ev) ev ≡ on r' → Sound r' (bytes ++ written_event ev)
  event_keeps (start x) r r' bytes k b e = start_keeps r r' bytes x k b e
  event_keeps (text s) r r' bytes k b e = text_keeps r r' bytes s k b e
  event_keeps (end x) r r' bytes k b e = end_keeps r.place r.top.label r.top.stage r.top.held.text r.top.held.children r.under r.state r' bytes x k e

  pub follow_keeps : (evs : List Event) (r last : Standing) (bytes : List ℕ) → Sound r bytes → Follows (growing B) r evs last → Sound last (bytes ++ written_events evs)
  unfolding Follows written_events
  follow_keeps [] r last bytes k f = rw (append-nil, ← f) k
  follow_keeps (ev ∷ evs) r last bytes k f =
      rw append_assoc at (follow_keeps evs f.0 last (bytes ++ written_event ev) (event_keeps ev r f.0 bytes k f.1 f.2) f.3)

  pub begin_sound : Sound (begin (growing B) []) []
  unfolding Open opened written has_element shaped
  begin_sound = record { stage = refl; levels = record { textless = refl; fits = refl; inside = refl }; bytes_are = refl; place_is = refl }
