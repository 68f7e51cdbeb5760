-- The states of a book that is not refused lead as the paper says: AND, OR and NOT to higher states, every state inside the book. So the laws of the match rule
-- (Match.Laws) hold of it, and it has no other reading. Sections "Filter book" and "Match rule".
use Rattle.std.specs.Prelude.{◌≡◌, refl, Bool, true, false, ◌&&◌, eqb, ltb}
use Rattle.std.proofs.Common.{◌∙◌, not-suc-le-zero}
use Rattle.std.proofs.Math.Path.{ap}
use Rattle.std.proofs.lemmas.Bool.{false≢true}
use mathlib.Core.List.{List, ◌++◌}
use Prim.Native.Nat.{ℕ, zero, suc, ◌+◌, ◌-◌, ◌*◌, ◌≤◌, ◌<◌}
use native.Mathlib.Omega.{arith}
use Rattle.std.proofs.Math.Decide.{dec_lt}
use Rattle.std.proofs.Math.ListN.{length, get_or, get_or-append}
use Rattle.std.proofs.Math.Seq.{get_or-append-add}
use borrow.Author.Tests.{ltb-true, not-false}
use Rattle.lists.specs.Choice.{pick}
use Rattle.lists.specs.Below.{up_to}
use Rattle.lists.specs.Choice.Laws.{both}
use Rattle.lists.specs.Below.Laws.{some_below_each, up_to_at}
use Rattle.rules.specs.Bytes.{le2, le4, signed4}
use Rattle.rules.specs.State.{Test, compares, State, TRUE, LEAF, AND, OR, NOT, STEP}
use Rattle.rules.specs.Book.{filter_count, body_start, body_size, states_before, is_row, leads_well, row_at, leads_at, bad_rows, bad_successors, relation_of, state_at, states_of_first, states_of, meaning_of}
use Rattle.rules.specs.Tree.{Content}
use Rattle.rules.specs.Match.{matches, MatchRule}
use Rattle.rules.specs.Run.{Lent, run_refusal}
use Rattle.rules.proofs.Match.Settle.{Fine}
use Rattle.rules.specs.Leading.{Higher}
use Rattle.rules.specs.Leading.{Inside}
use Rattle.rules.proofs.Match.Laws.{one_reading}
use Rattle.rules.proofs.Run.Laws.{accepted_row}
use Rattle.rules.proofs.Run.Day.{states_long}

-- state number j leads to higher states, of the states below n
abbrev Leads : State → ℕ → ℕ → Type 0
Leads s j n = Higher s j × Inside s n

-- ── one state ──
-- a successor x, in a body of n states whose state 0 is number base of the book
leads_to : (i n x base : ℕ) → ltb i x && ltb x n ≡ true → (base + i < base + x) × (base + x < base + n)
leads_to i n x base e =
    let t : (ltb i x ≡ true) × (ltb x n ≡ true) = both (ltb i x) (ltb x n) e in
    let h : i < x = ltb-true _ _ t.0 in
    let u : x < n = ltb-true _ _ t.1 in
    (omega arith, omega arith)

lead_to : (i n x y base : ℕ) → ltb i x && ltb x n && ltb i y && ltb y n ≡ true →
    ((base + i < base + x) × (base + i < base + y)) × ((base + x < base + n) × (base + y < base + n))
lead_to i n x y base e =
    let s : (ltb i x && ltb x n && ltb i y ≡ true) × (ltb y n ≡ true) = both (ltb i x && ltb x n && ltb i y) (ltb y n) e in
    let t : (ltb i x && ltb x n ≡ true) × (ltb i y ≡ true) = both (ltb i x && ltb x n) (ltb i y) s.0 in
    let first : (base + i < base + x) × (base + x < base + n) = leads_to i n x base t.0 in
    let second : (base + i < base + y) × (base + y < base + n) = leads_to i n y base (rw (t.1, s.1)) in
    ((first.0, second.0), (first.1, second.1))

-- a row whose kind is none of 0 to 4 has kind 5
last_kind : (K one x y z : ℕ) → is_row K one x y z ≡ true →
    eqb K 0 ≡ false → eqb K 1 ≡ false → eqb K 2 ≡ false → eqb K 3 ≡ false → eqb K 4 ≡ false → eqb K 5 ≡ true
unfolding is_row pick
last_kind K one x y z r a b c d e = go (eqb K 5) (rw (a, b, c, d, e) at r)
  where
    go : (t : Bool) → pick t (eqb one 0 && eqb z 0) false ≡ true → t ≡ true
    go true k = refl
    go false k = k

-- state i of a body, whose 8 bytes are a row of the table and lead as they must
state_leads : (b : List ℕ) (base at i n : ℕ) → row_at b at ≡ true → leads_at b at i n ≡ true → Leads (state_at b base at) (base + i) (base + n)
unfolding state_at leads_well pick
state_leads b base at i n r e =
    go (compares (relation_of (get_or b (at + 1) 0)) (signed4 (le4 b (at + 4)))) (eqb K 0) (eqb K 1) (eqb K 2) (eqb K 3) (eqb K 4) (eqb K 5)
    (last_kind K (get_or b (at + 1) 0) x y (le2 b (at + 6)) r) e
  where
    K : ℕ
    K = get_or b at 0

    x : ℕ
    x = le2 b (at + 2)

    y : ℕ
    y = le2 b (at + 4)

    step : ltb y n ≡ true → base + y < base + n
    step h = let u : y < n = ltb-true _ _ h in omega arith

    go : (w : Test) (t₀ t₁ t₂ t₃ t₄ t₅ : Bool) → (t₀ ≡ false → t₁ ≡ false → t₂ ≡ false → t₃ ≡ false → t₄ ≡ false → t₅ ≡ true) →
        pick t₂ (ltb i x && ltb x n && ltb i y && ltb y n)
        (pick t₃ (ltb i x && ltb x n && ltb i y && ltb y n) (pick t₄ (ltb i x && ltb x n) (pick t₅ (ltb y n) true))) ≡ true →
        Leads (pick t₀ TRUE (pick t₁ (LEAF w) (pick t₂ (AND (base + x) (base + y)) (pick t₃ (OR (base + x) (base + y)) (pick t₄ (NOT (base + x)) (pick t₅ (STEP x (base + y)) TRUE))))))
        (base + i) (base + n)
    go w true t₁ t₂ t₃ t₄ t₅ k e = (tt, tt)
    go w false true t₂ t₃ t₄ t₅ k e = (tt, tt)
    go w false false true t₃ t₄ t₅ k e = lead_to i n x y base e
    go w false false false true t₄ t₅ k e = lead_to i n x y base e
    go w false false false false true t₅ k e = leads_to i n x base e
    go w false false false false false true k e = (tt, step e)
    go w false false false false false false k e = absurd (false≢true (k refl refl refl refl refl))

-- ── all states of a book ──
leads_more : (s : State) (j n m : ℕ) → n ≤ m → Leads s j n → Leads s j m
leads_more TRUE j n m h u = u
leads_more (LEAF t) j n m h u = u
leads_more (AND i k) j n m h u = (u.0, (omega (arith, u.1.0), omega (arith, u.1.1)))
leads_more (OR i k) j n m h u = (u.0, (omega (arith, u.1.0), omega (arith, u.1.1)))
leads_more (NOT i) j n m h u = (u.0, omega (arith, u.1))
leads_more (STEP l s) j n m h u = (u.0, omega (arith, u.1))

module _ (b : List ℕ) (rows : bad_rows b ≡ false) (leads : bad_successors b ≡ false) where
  row_good : (k i : ℕ) → k < filter_count b → i < body_size b k → row_at b (body_start b k + 8 * i) ≡ true
  unfolding bad_rows
  row_good k i h u = not-false _ (some_below_each _ (body_size b k) i (some_below_each _ (filter_count b) k rows h) u)

  leads_good : (k i : ℕ) → k < filter_count b → i < body_size b k → leads_at b (body_start b k + 8 * i) i (body_size b k) ≡ true
  unfolding bad_successors
  leads_good k i h u = not-false _ (some_below_each _ (body_size b k) i (some_below_each _ (filter_count b) k leads h) u)

  first_lead : (n : ℕ) → n ≤ filter_count b → (j : ℕ) → j < states_before b n → Leads (get_or (states_of_first b n) j TRUE) j (states_before b n)
  unfolding states_of_first states_before
  first_lead zero h j u = absurd (not-suc-le-zero u)
  first_lead (suc n) h j u = elim (dec_lt j (states_before b n)) [
    | yes l ↦
        rw (get_or-append (states_of_first b n) own TRUE j (rw (states_long b n) l))
        (leads_more (get_or (states_of_first b n) j TRUE) j (states_before b n) (states_before b n + body_size b n) (omega arith) (first_lead n (omega arith) j l))
    | no l ↦
        let i : ℕ = j - states_before b n in
        let v : i < body_size b n = omega arith in
        let w : j ≡ length (states_of_first b n) + i = rw (states_long b n) (omega arith) in
        let x : states_before b n + i ≡ j = omega arith in
        let s : get_or (states_of_first b n ++ own) j TRUE ≡ state_at b (states_before b n) (body_start b n + 8 * i)
        = ap (λ k. get_or (states_of_first b n ++ own) k TRUE) w ∙ get_or-append-add (states_of_first b n) own i TRUE ∙ up_to_at _ (body_size b n) i TRUE v in
        rw s (rw x at (state_leads b (states_before b n) (body_start b n + 8 * i) i (body_size b n) (row_good n i (omega arith) v) (leads_good n i (omega arith) v)))
  ]
    where
      own : List State
      own = up_to (λ i. state_at b (states_before b n) (body_start b n + 8 * i)) (body_size b n)

  pub states_fine : Fine (states_of b)
  unfolding states_of
  states_fine = record {
    higher = λ k h. (lead k h).0;
    inside = λ k h. rw (states_long b (filter_count b)) (lead k h).1;
  }
    where
      lead : (k : ℕ) → k < length (states_of_first b (filter_count b)) → Leads (get_or (states_of_first b (filter_count b)) k TRUE) k (states_before b (filter_count b))
      lead k h = first_lead (filter_count b) (omega arith) k (rw (states_long b (filter_count b)) at h)

-- ── a run that is not refused ──
pub book_fine : (l : Lent) → run_refusal l ≡ 0 → Fine (states_of l.book)
book_fine l e = states_fine l.book (accepted_row l e 6) (accepted_row l e 7)

-- so the match rule has one reading: any function with its laws, state kind by state kind, is `matches`
pub book_reading : (l : Lent) → run_refusal l ≡ 0 → (m : Content → ℕ → Bool) → MatchRule (meaning_of l.book) m →
    (n : Content) (j : ℕ) → j < length (states_of l.book) → m n j ≡ matches (meaning_of l.book) n j
book_reading l e = one_reading (meaning_of l.book) (book_fine l e)
