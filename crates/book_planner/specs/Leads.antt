-- Where the successors of an accepted state lead, numbered through the book.
use Rattle.std.specs.Prelude.{◌≡◌, refl, true, false, ◌&&◌, List, ℕ, zero, suc, ◌+◌, ◌<◌, ltb, get_or}
use Rattle.std.proofs.Common.{sym, ◌∙◌, arith, ltb-true, ne_eqb}
use Rattle.std.proofs.lemmas.Bool.{false≢true}
use Rattle.lists.specs.Choice.{pick}
use Rattle.lists.specs.Choice.Laws.{both}
use Rattle.rules.specs.Bytes.{le2}
use Rattle.rules.specs.Book.{is_row, leads_well, row_at, leads_at, state_at}
use Rattle.rules.specs.Leading.{Higher}
use Rattle.rules.specs.Leading.{Inside}

-- ── the tests of the table, with the body's first state at number base ──
one_leads : (base i n x : ℕ) → ltb i x && ltb x n ≡ true → (base + i < base + x) × (base + x < base + n)
one_leads base i n x e =
    let d = both (ltb i x) _ e in
    (omega (arith, ltb-true i x d.0), omega (arith, ltb-true x n d.1))

two_lead : (base i n x y : ℕ) → ltb i x && ltb x n && ltb i y && ltb y n ≡ true
    → ((base + i < base + x) × (base + i < base + y)) × ((base + x < base + n) × (base + y < base + n))
two_lead base i n x y e =
    let d = both (ltb i x && ltb x n && ltb i y) _ e in
    let f = both (ltb i x && ltb x n) _ d.0 in
    let g = one_leads base i n x f.0 in
    ((g.0, omega (arith, ltb-true i y f.1)), (g.1, omega (arith, ltb-true y n d.1)))

-- there are six kinds
no_kind : (k one x y z : ℕ) → 5 < k → is_row k one x y z ≡ false
unfolding is_row pick
no_kind k one x y z h =
    let n0 : k ≡ 0 → ⊥ = omega arith in
    let n1 : k ≡ 1 → ⊥ = omega arith in
    let n2 : k ≡ 2 → ⊥ = omega arith in
    let n3 : k ≡ 3 → ⊥ = omega arith in
    let n4 : k ≡ 4 → ⊥ = omega arith in
    let n5 : k ≡ 5 → ⊥ = omega arith in
    simp (ne_eqb k 0 n0, ne_eqb k 1 n1, ne_eqb k 2 n2, ne_eqb k 3 n3, ne_eqb k 4 n4, ne_eqb k 5 n5)

-- state i of a body of n states, whose kind is k
leads : (b : List ℕ) (base at i n k : ℕ) → get_or b at 0 ≡ k → row_at b at ≡ true → leads_at b at i n ≡ true
    → Higher (state_at b base at) (base + i) × Inside (state_at b base at) (base + n)
unfolding state_at is_row leads_well pick
leads b base at i n zero e r l = rw e (tt, tt)
leads b base at i n (suc zero) e r l = rw e (tt, tt)
leads b base at i n (suc (suc zero)) e r l = rw e (two_lead base i n _ _ (rw e at l))
leads b base at i n (suc (suc (suc zero))) e r l = rw e (two_lead base i n _ _ (rw e at l))
leads b base at i n (suc (suc (suc (suc zero)))) e r l = rw e (one_leads base i n _ (rw e at l))
leads b base at i n (suc (suc (suc (suc (suc zero))))) e r l =
    let h : le2 b (at + 4) < n = ltb-true _ _ (rw e at l) in
    rw e (tt, omega arith)
leads b base at i n (suc (suc (suc (suc (suc (suc k)))))) e r l =
    absurd (false≢true (sym (no_kind (get_or b at 0) (get_or b (at + 1) 0) (le2 b (at + 2)) (le2 b (at + 4)) (le2 b (at + 6)) (omega arith)) ∙ r))

pub leads_well_lem : (b : List ℕ) (base at i n : ℕ) → row_at b at ≡ true → leads_at b at i n ≡ true
    → Higher (state_at b base at) (base + i) × Inside (state_at b base at) (base + n)
leads_well_lem b base at i n r l = leads b base at i n (get_or b at 0) refl r l
