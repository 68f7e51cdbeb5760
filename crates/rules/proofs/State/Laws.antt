-- The six relations are what their signs say: = is equality, ≠ its negation, ≤ and ≥ are "not >" and "not <".
use Rattle.std.specs.Prelude.{◌≡◌, refl, Bool, true, false, not, ◌↔◌, ℕ, ◌≤◌, ltb, leb, ℤ, pos, negsuc}
use Rattle.std.proofs.Common.{sym, ap, ◌∙◌, true≢false, arith, ltb-true, ltb-false, leb-true, le-leb}
use Rattle.std.proofs.lemmas.Bool.{false≢true, lt-leb, not-true}
use Rattle.std.specs.Int.Signed.{le_z}
use Rattle.lists.specs.Choice.Laws.{both}
use Rattle.rules.specs.State.{equal, differs, below, at_most, above, at_least, related}

-- ── the order of the whole numbers ──
at_most_self : (z : ℤ) → le_z z z ≡ true
at_most_self (pos n) = le-leb n n (omega arith)
at_most_self (negsuc n) = le-leb n n (omega arith)

both_ways : (z c : ℤ) → le_z z c ≡ true → le_z c z ≡ true → z ≡ c
both_ways (pos a) (pos b) h k =
    let l : a ≤ b = leb-true a b h in
    let g : b ≤ a = leb-true b a k in
    let e : a ≡ b = omega arith in
    ap pos e
both_ways (pos a) (negsuc b) h k = absurd (false≢true h)
both_ways (negsuc a) (pos b) h k = absurd (false≢true k)
both_ways (negsuc a) (negsuc b) h k =
    let l : b ≤ a = leb-true b a h in
    let g : a ≤ b = leb-true a b k in
    let e : a ≡ b = omega arith in
    ap negsuc e

not_over : (a b : ℕ) → leb a b ≡ not (ltb b a)
not_over a b = go (ltb b a) refl
  where
    go : (t : Bool) → ltb b a ≡ t → leb a b ≡ not t
    go true e = lt-leb a b (ltb-true b a e)
    go false e = le-leb a b (ltb-false b a e)

-- ── = and ≠ ──
pub equal_is : (z c : ℤ) → (related equal z c ≡ true) ↔ (z ≡ c)
equal_is z c = (
  λ e. both_ways z c (both (le_z z c) (le_z c z) e).0 (both (le_z z c) (le_z c z) e).1,
  λ e. rw (e, at_most_self c),
)

pub differs_is : (z c : ℤ) → (related differs z c ≡ true) ↔ (z ≡ c → ⊥)
differs_is z c = (
  λ e d. true≢false (sym ((equal_is z c).1 d) ∙ not-true _ e),
  λ h. go (related equal z c) refl h,
)
  where
    go : (t : Bool) → related equal z c ≡ t → (z ≡ c → ⊥) → not t ≡ true
    go true e h = absurd (h ((equal_is z c).0 e))
    go false e h = refl

-- ── ≤ is "not >", ≥ is "not <", and > is < the other way round ──
pub at_most_is : (z c : ℤ) → related at_most z c ≡ not (related above z c)
at_most_is (pos a) (pos b) = not_over a b
at_most_is (pos a) (negsuc b) = refl
at_most_is (negsuc a) (pos b) = refl
at_most_is (negsuc a) (negsuc b) = not_over b a

pub at_least_is : (z c : ℤ) → related at_least z c ≡ not (related below z c)
at_least_is z c = at_most_is c z

pub above_is : (z c : ℤ) → related above z c ≡ related below c z
above_is z c = refl
