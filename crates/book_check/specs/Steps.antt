-- Refusals 1, 3, 4 and 5, a law for each way out. `f` is the number of filters that was read.
use Rattle.std.specs.Prelude.{◌≡◌, refl, Bool, true, ◌||◌, not, List, ℕ, ◌+◌, ◌-◌, ◌*◌, ◌^◌, ◌<◌, ◌≤◌, eqb, ltb, leb, length}
use Rattle.std.proofs.Common.{◌∙◌, add-one, lt-ltb, le-ltb}
use native.Mathlib.Omega.{arith}
use Rattle.lists.specs.Below.{some_below}
use Rattle.rules.specs.Bytes.{entry_at}
use Rattle.rules.specs.Book.{most_states, state_width, filter_count, id_of, body_start, body_size, states_before, book_short, ids_fall, bad_sizes, bodies_astray}
use Rattle.book_contents.specs.BookAccepted.{falls_at, empty_at}
use Rattle.lists.specs.Below.Laid.{Laid, astray, laid_none, laid_next, laid_hit, laid_all}

-- ── 1 ──
pub short_bare : (b : List ℕ) → length b < 2 → true ≡ book_short b
unfolding book_short
short_bare b h = simp (lt-ltb (length b) 2 h)

pub short_is : (b : List ℕ) (e : ℕ) → 2 ≤ length b → e ≡ entry_at (filter_count b) → ltb (length b) e ≡ book_short b
unfolding book_short
short_is b e h d = simp (le-ltb (length b) 2 h, d)

-- ── 3: a pair is named by its second entry ──
abbrev pub falls_before : List ℕ → ℕ → Bool
falls_before b k = leb (id_of b k) (id_of b (k - 1))

pub falls_next : (b : List ℕ) (k : ℕ) → falls_at b k ≡ falls_before b (1 + k)
falls_next b k = let e : 1 + k ≡ k + 1 = omega arith in let d : k + 1 - 1 ≡ k = omega arith in rw (e, d)

pub ids_is : (b : List ℕ) (f : ℕ) → f ≡ filter_count b → some_below (falls_at b) (f - 1) ≡ ids_fall b
unfolding ids_fall
ids_is b f count = rw count

-- ── 4 ──
-- the sum of the sizes before k
pub record Summed (b : List ℕ) (f sum k : ℕ) : Type 0 where
  pub within : k ≤ f
  pub low : sum ≤ 65536 * k
  pub same : sum ≡ states_before b k

pub summed_none : {b : List ℕ} {f : ℕ} → Summed b f 0 0
unfolding states_before
summed_none = record { within = omega arith; low = omega arith; same = refl }

pub summed_next : {b : List ℕ} {f sum k n : ℕ} → Summed b f sum k → k < f → n ≡ body_size b k → n < 65536 → Summed b f (sum + n) (k + 1)
unfolding states_before
summed_next {b} {f} {sum} {k} {n} g h e l = record { within = omega arith; low = omega arith; same = rw (add-one, ← g.same, e) }

pub summed_all : {b : List ℕ} {f sum k : ℕ} → f ≡ filter_count b → Summed b f sum k → f ≤ k → sum ≡ states_before b (filter_count b)
summed_all {b} {f} {sum} {k} count g h = let e : k ≡ filter_count b = omega arith in rw (← e) g.same

pub sizes_is : (b : List ℕ) (t : Bool) (n : ℕ) → t ≡ some_below (empty_at b) (filter_count b) → n ≡ states_before b (filter_count b) → t || ltb most_states n ≡ bad_sizes b
unfolding bad_sizes
sizes_is b t n e d = rw (e, d)

-- ── 5 ──
abbrev pub Placed : List ℕ → ℕ → ℕ → ℕ → Type 0
Placed b f place k = Laid (body_start b) (λ j. state_width * states_before b j) (entry_at f) f place k

placed_is : (b : List ℕ) (f : ℕ) → f ≡ filter_count b → astray (body_start b) (λ j. state_width * states_before b j) (entry_at f) f (length b) ≡ bodies_astray b
unfolding bodies_astray
placed_is b f count = rw count

module _ (b : List ℕ) {f : ℕ} (count : f ≡ filter_count b) where
  pub placed_none : {place : ℕ} → place ≡ entry_at (filter_count b) → Placed b f place 0
  unfolding states_before
  placed_none {place} e = let d : place ≡ entry_at f = omega arith in rw d (laid_none (omega arith))

  pub placed_next : {place k s l : ℕ} → Placed b f place k → k < f → s ≡ body_start b k → s ≡ place → l ≡ state_width * body_size b k → l < 2 ^ 20 → Placed b f (place + l) (k + 1)
  unfolding states_before
  placed_next {k = k} g h es ep el m = laid_next g h es ep (omega arith) (rw (add-one k) (omega arith))

  pub placed_hit : {place k s : ℕ} → Placed b f place k → k < f → s ≡ body_start b k → (s ≡ place → ⊥) → true ≡ bodies_astray b
  placed_hit g h es d = laid_hit g h es (length b) d ∙ placed_is b f count

  pub placed_all : {place k : ℕ} → Placed b f place k → f ≤ k → not (eqb (length b) place) ≡ bodies_astray b
  placed_all g h = laid_all (length b) g h ∙ placed_is b f count

pub ruleset placed_laws = (placed_hit, placed_all)
