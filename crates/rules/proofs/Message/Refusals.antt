-- What the refusals of an event say of the tree read so far. Section "Refusal numbers", 23 to 29.
use Rattle.std.specs.Prelude.{◌≡◌, refl, Bool, true, false, ◌||◌, ◌&&◌, not, List, [], ℕ, suc, ◌<◌, ◌≤◌, eqb, leb}
use Rattle.std.proofs.Common.{sym, ◌∙◌, true≢false, arith, leb-false, ltb-false, eqb-true, eq-eqb}
use Rattle.std.proofs.lemmas.Bool.{false≢true, eqb-false, lt-leb, not-true, not-false}
use Rattle.std.proofs.Math.Option.{Option, none, some}
use Rattle.std.proofs.Math.Dec.{eqb-suc-zero}
use Rattle.lists.specs.Below.{bit}
use Rattle.lists.specs.Choice.Laws.{both, neither}
use Rattle.lists.specs.Checks.Laws.{first_passes, first_end, first_zero}
use Rattle.rules.specs.State.{any_attribute, label_limit, attribute}
use Rattle.rules.specs.Tree.{Forest, childless}
use Rattle.rules.specs.Message.{most_open, start_refusal, text_refusal, end_refusal, last_refusal}
use Rattle.rules.specs.Written.{has_element, is_childless, one_element}
use Rattle.rules.proofs.Written.Shape.{Child, an_attribute, an_element, no_element, one_has, attributes_first, label_fits}

-- ── where a child may stand ──
-- the stage of a level with this text and these children
abbrev pub stage_of : Option (List ℕ) → Forest → ℕ
stage_of none f = bit (has_element f)
stage_of (some s) f = 2

-- the children of the root: "a message is one top element"
abbrev pub root_fits : ℕ → Forest → Bool
root_fits depth f = not (eqb depth 0) || (is_childless f || one_element f)

-- a child x after f there
abbrev pub top_fits : ℕ → Forest → ℕ → Bool
top_fits depth f x = not (eqb depth 0) || (is_childless f && not (attribute x))

top_passes : (depth : ℕ) (f : Forest) (x : ℕ) → top_fits depth f x ≡ true → not (eqb depth 0) || (not (has_element f) && not (attribute x)) ≡ true
top_passes depth f x e = go (eqb depth 0) (is_childless f) refl e
  where
    go : (d l : Bool) → is_childless f ≡ l → not d || (l && not (attribute x)) ≡ true → not d || (not (has_element f) && not (attribute x)) ≡ true
    go false l q h = refl
    go true false q h = absurd (false≢true h)
    go true true q h = rw (no_element f q, h)

top_known : (depth : ℕ) (f : Forest) (x : ℕ) → root_fits depth f ≡ true → not (eqb depth 0) || (not (has_element f) && not (attribute x)) ≡ true → top_fits depth f x ≡ true
top_known depth f x r e = go (eqb depth 0) (is_childless f) r e
  where
    go : (d l : Bool) → not d || (l || one_element f) ≡ true → not d || (not (has_element f) && not (attribute x)) ≡ true → not d || (l && not (attribute x)) ≡ true
    go false l p h = refl
    go true true p h = (both (not (has_element f)) (not (attribute x)) h).1
    go true false p h = absurd (true≢false (sym (one_has f p) ∙ not-true (has_element f) (both (not (has_element f)) (not (attribute x)) h).0))

-- ── start ──
-- check 24 where no text came. a: the level's label is an attribute's; b: the child's; top: nothing is open; h: a child element came
place_test : (a b top h : Bool) →
    a || (b && (top || not (eqb (bit h) 0))) || (not b && (eqb (bit h) 2 || (top && eqb (bit h) 1))) ≡ not (not a && ((not top || (not h && not b)) && (not b || not h)))
place_test true b top h = refl
place_test false true true true = refl
place_test false true true false = refl
place_test false true false true = refl
place_test false true false false = refl
place_test false false true true = refl
place_test false false true false = refl
place_test false false false true = refl
place_test false false false false = refl

-- where one came
text_bars : (a b top : Bool) → a || (b && (top || not (eqb 2 0))) || (not b && (eqb 2 2 || (top && eqb 2 1))) ≡ true
text_bars true b top = refl
text_bars false true true = refl
text_bars false true false = refl
text_bars false false top = refl

pub start_allowed : (depth label x : ℕ) (f : Forest) (t : Option (List ℕ)) (kids : Forest) → attribute label ≡ false → depth < most_open →
    top_fits depth f x ≡ true → Child f x t kids → start_refusal depth label (stage_of none f) x ≡ 0
unfolding start_refusal
start_allowed depth label x f t kids a d top c =
    first_passes 23 _ _ (label_fits c)
    ∙ first_passes 24 _ _ (place_test (attribute label) (attribute x) (eqb depth 0) (has_element f) ∙ rw (a, top_passes depth f x top, attributes_first c))
    ∙ first_passes 25 _ _ (lt-leb most_open depth d)
    ∙ first_end

-- what a start that is not refused says
pub record Started (depth label x : ℕ) (t : Option (List ℕ)) (f : Forest) : Type 0 where
  pub element : attribute label ≡ false
  pub textless : t ≡ none
  pub room : depth < most_open
  pub top : top_fits depth f x ≡ true
  pub child : Child f x none childless

child_known : (f : Forest) (x : ℕ) → x < label_limit → eqb x 0 || eqb x any_attribute ≡ false → not (attribute x) || not (has_element f) ≡ true → Child f x none childless
child_known f x l e h = go (attribute x) refl h
  where
    go : (a : Bool) → attribute x ≡ a → not a || not (has_element f) ≡ true → Child f x none childless
    go true a p = an_attribute a l (not-true (has_element f) p) refl
    go false a p =
        let n = neither (eqb x 0) (eqb x any_attribute) e in
        let u : x ≤ any_attribute = ltb-false any_attribute x a in
        let v : x ≡ 0 → ⊥ = eqb-false x 0 n.0 in
        let w : x ≡ any_attribute → ⊥ = eqb-false x any_attribute n.1 in
        an_element a (omega arith) (omega arith) refl

pub start_known : (depth label x : ℕ) (t : Option (List ℕ)) (f : Forest) → x < label_limit → root_fits depth f ≡ true → start_refusal depth label (stage_of t f) x ≡ 0 →
    Started depth label x t f
unfolding start_refusal
start_known depth label x (some s) f l r e =
    let p = first_zero 23 _ _ (omega arith) e in
    let q = first_zero 24 _ _ (omega arith) p.1 in
    absurd (true≢false (sym (text_bars (attribute label) (attribute x) (eqb depth 0)) ∙ q.0))
start_known depth label x none f l r e =
    let p = first_zero 23 _ _ (omega arith) e in
    let q = first_zero 24 _ _ (omega arith) p.1 in
    let w = first_zero 25 (leb most_open depth) [] (omega arith) q.1 in
    let all = not-false _ (sym (place_test (attribute label) (attribute x) (eqb depth 0) (has_element f)) ∙ q.0) in
    let a = both (not (attribute label)) _ all in
    let b = both (not (eqb depth 0) || (not (has_element f) && not (attribute x))) _ a.1 in
    record {
      element = not-true (attribute label) a.0;
      textless = refl;
      room = leb-false most_open depth w.0;
      top = top_known depth f x r b.0;
      child = child_known f x l p.0 b.1;
    }

-- ── text ──
pub text_allowed : (depth : ℕ) (out : Bool) → out ≡ false → text_refusal (suc depth) 0 out ≡ 0
unfolding text_refusal
text_allowed depth out e = first_passes 26 (eqb (suc depth) 0 || false) _ (rw eqb-suc-zero) ∙ first_passes 27 _ _ e ∙ first_end

-- what a text that is not refused says
pub record Said (depth : ℕ) (out : Bool) (t : Option (List ℕ)) (f : Forest) : Type 0 where
  pub deep : eqb depth 0 ≡ false
  pub textless : t ≡ none
  pub childless : has_element f ≡ false
  pub fits : not out ≡ true

pub text_known : (depth : ℕ) (out : Bool) (t : Option (List ℕ)) (f : Forest) → text_refusal depth (stage_of t f) out ≡ 0 → Said depth out t f
unfolding text_refusal
text_known depth out t f e =
    let p = first_zero 26 _ _ (omega arith) e in
    let q = neither (eqb depth 0) _ p.0 in
    let o = first_zero 27 out [] (omega arith) p.1 in
    let n = nothing_came t f (not-false (eqb (stage_of t f) 0) q.1) in
    record { deep = q.0; textless = n.0; childless = n.1; fits = rw o.0 }
  where
    nothing_came : (t : Option (List ℕ)) (f : Forest) → eqb (stage_of t f) 0 ≡ true → (t ≡ none) × (has_element f ≡ false)
    nothing_came (some s) f e = absurd (false≢true e)
    nothing_came none f e = (refl, go (has_element f) e)
      where
        go : (h : Bool) → eqb (bit h) 0 ≡ true → h ≡ false
        go true e = absurd (false≢true e)
        go false e = refl

-- ── end, and the end of the body ──
pub end_allowed : (depth x : ℕ) → end_refusal (suc depth) x x ≡ 0
unfolding end_refusal
end_allowed depth x = first_passes 28 _ _ (rw (eqb-suc-zero, eq-eqb x x refl)) ∙ first_end

pub end_known : (depth label x : ℕ) → end_refusal depth label x ≡ 0 → (eqb depth 0 ≡ false) × (x ≡ label)
unfolding end_refusal
end_known depth label x e =
    let p = neither (eqb depth 0) _ (first_zero 28 _ _ (omega arith) e).0 in
    (p.0, eqb-true x label (not-false (eqb x label) p.1))

pub last_allowed : (f : Forest) → has_element f ≡ true → last_refusal 0 (stage_of none f) ≡ 0
unfolding last_refusal
last_allowed f e = rw e (first_passes 29 false [] refl ∙ first_end)

pub last_known : (depth stage : ℕ) → last_refusal depth stage ≡ 0 → (depth ≡ 0) × (stage ≡ 1)
unfolding last_refusal
last_known depth stage e =
    let p = both (eqb depth 0) (eqb stage 1) (not-false _ (first_zero 29 _ _ (omega arith) e).0) in
    (eqb-true depth 0 p.0, eqb-true stage 1 p.1)
