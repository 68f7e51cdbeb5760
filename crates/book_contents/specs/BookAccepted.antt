-- What an accepted book gives: section "Refusal numbers", 1 to 7, read the other way round.
use Rattle.std.specs.Prelude.{◌≡◌, refl, Bool, true, false, not, List, ℕ, ◌+◌, ◌*◌, ◌<◌, ◌≤◌, eqb, leb, length}
use Rattle.std.proofs.Common.{arith, ltb-false, leb-false, eqb-true}
use Rattle.std.proofs.lemmas.Bool.{eqb-false}
use Rattle.lists.specs.Below.{some_below}
use Rattle.lists.specs.Checks.{row_fails}
use Rattle.lists.specs.Choice.Laws.{neither, not_not}
use Rattle.lists.specs.Below.Laws.{some_below_each, sum_rises}
use Rattle.lists.specs.Checks.Laws.{none_fails, row_passes}
use Rattle.rules.specs.Bytes.{entry_at}
use Rattle.rules.specs.Book.{most_filters, most_states, state_width, filter_count, id_of, body_start, body_size, states_before, body_place, row_at, leads_at, book_short, ids_fall, bad_sizes, bodies_astray, bad_rows, bad_successors, book_checks, book_refusal}

-- ── what the checks ask of an entry ──
abbrev pub falls_at : List ℕ → ℕ → Bool
falls_at b k = leb (id_of b (k + 1)) (id_of b k)

abbrev pub empty_at : List ℕ → ℕ → Bool
empty_at b k = eqb (body_size b k) 0

abbrev pub stray_at : List ℕ → ℕ → Bool
stray_at b k = not (eqb (body_start b k) (body_place b k))

-- ── check by check ──
pub room : (b : List ℕ) → book_short b ≡ false → (2 ≤ length b) × (entry_at (filter_count b) ≤ length b)
unfolding book_short
room b e = let d = neither _ _ e in (ltb-false _ _ d.0, ltb-false _ _ d.1)

pub ids_rise : (b : List ℕ) → ids_fall b ≡ false → (k : ℕ) → k + 1 < filter_count b → id_of b k < id_of b (k + 1)
unfolding ids_fall
ids_rise b e k h = leb-false _ _ (some_below_each (falls_at b) _ k e (omega arith))

pub sizes : (b : List ℕ) → bad_sizes b ≡ false → ((k : ℕ) → k < filter_count b → 1 ≤ body_size b k) × (states_before b (filter_count b) ≤ most_states)
unfolding bad_sizes
sizes b e =
    let d = neither (some_below (empty_at b) (filter_count b)) _ e in
    ((λ k h. let z : body_size b k ≡ 0 → ⊥ = eqb-false _ _ (some_below_each (empty_at b) _ k d.0 h) in omega arith), ltb-false _ _ d.1)

pub places : (b : List ℕ) → bodies_astray b ≡ false → ((k : ℕ) → k < filter_count b → body_start b k ≡ body_place b k) × (length b ≡ body_place b (filter_count b))
unfolding bodies_astray
places b e =
    let d = neither (some_below (stray_at b) (filter_count b)) _ e in
    ((λ k h. eqb-true _ _ (not_not _ (some_below_each (stray_at b) _ k d.0 h))), eqb-true _ _ (not_not _ d.1))

pub rows : (b : List ℕ) → bad_rows b ≡ false → (k i : ℕ) → k < filter_count b → i < body_size b k → row_at b (body_start b k + state_width * i) ≡ true
unfolding bad_rows
rows b e k i h l = not_not _ (some_below_each _ _ i (some_below_each _ _ k e h) l)

pub successors : (b : List ℕ) → bad_successors b ≡ false → (k i : ℕ) → k < filter_count b → i < body_size b k → leads_at b (body_start b k + state_width * i) i (body_size b k) ≡ true
unfolding bad_successors
successors b e k i h l = not_not _ (some_below_each _ _ i (some_below_each _ _ k e h) l)

-- ── the states before a filter ──
pub states_rise : (b : List ℕ) (k n : ℕ) → k < n → states_before b k + body_size b k ≤ states_before b n
unfolding states_before
states_rise b = sum_rises (states_before b) (body_size b) (λ k. refl)

-- ── the whole ──
pub record BookAccepted (b : List ℕ) : Type 0 where
  pub few : filter_count b ≤ most_filters
  pub rise : (k : ℕ) → k + 1 < filter_count b → id_of b k < id_of b (k + 1)
  pub some : (k : ℕ) → k < filter_count b → 1 ≤ body_size b k
  pub states : states_before b (filter_count b) ≤ most_states
  pub placed : (k : ℕ) → k < filter_count b → body_start b k ≡ body_place b k
  pub whole : length b ≡ body_place b (filter_count b)
  pub rows : (k i : ℕ) → k < filter_count b → i < body_size b k → row_at b (body_start b k + state_width * i) ≡ true
  pub leads : (k i : ℕ) → k < filter_count b → i < body_size b k → leads_at b (body_start b k + state_width * i) i (body_size b k) ≡ true

pub accepted : (b : List ℕ) → book_refusal b ≡ 0 → BookAccepted b
unfolding book_refusal
accepted b e =
    let passes : (j : ℕ) → row_fails (book_checks b) j ≡ false = row_passes (book_checks b) (none_fails (book_checks b) refl e) in
    record {
      few = ltb-false _ _ (passes 2);
      rise = ids_rise b (passes 3);
      some = (sizes b (passes 4)).0;
      states = (sizes b (passes 4)).1;
      placed = (places b (passes 5)).0;
      whole = (places b (passes 5)).1;
      rows = rows b (passes 6);
      leads = successors b (passes 7);
    }

-- a body lies inside the book
pub body_inside : (b : List ℕ) → BookAccepted b → (k : ℕ) → k < filter_count b → body_start b k + state_width * body_size b k ≤ length b
body_inside b a k h = omega (arith, a.placed k h, a.whole, states_rise b k (filter_count b) h)

-- so do the count and the entries
pub table_inside : (b : List ℕ) → book_refusal b ≡ 0 → 2 ≤ length b
table_inside b ok = let a = accepted b ok in omega arith

pub entry_inside : (b : List ℕ) (k : ℕ) → book_refusal b ≡ 0 → k < filter_count b → entry_at (k + 1) ≤ length b
entry_inside b k ok h = let a = accepted b ok in omega arith
