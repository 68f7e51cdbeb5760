-- A loop that looks for a number below n that passes a test p, and has looked at those below i.
-- The code's own answer t for number i may come from a call: each law takes it with its equation.
use Rattle.std.specs.Prelude.{◌≡◌, Bool, true, false, ℕ, ◌+◌, ◌<◌, ◌≤◌}
use Rattle.std.proofs.Common.{sym, ◌∙◌, arith}
use Rattle.lists.specs.Below.{some_below}
use Rattle.lists.specs.Below.Laws.{some_below_hit, some_below_miss, some_below_none}

pub record Searched (p : ℕ → Bool) (n i : ℕ) : Type 0 where
  pub within : i ≤ n
  pub none : some_below p i ≡ false

module _ {p : ℕ → Bool} {n : ℕ} where
  pub searched_none : Searched p n 0
  searched_none = record { within = omega arith; none = some_below_none p }

  pub searched_next : {i : ℕ} {t : Bool} → Searched p n i → i < n → t ≡ p i → t ≡ false → Searched p n (i + 1)
  searched_next {i} g h e f = record { within = omega arith; none = some_below_miss p i g.none (sym e ∙ f) }

  pub searched_hit : {i : ℕ} {t : Bool} → Searched p n i → i < n → t ≡ p i → t ≡ true → true ≡ some_below p n
  searched_hit {i} g h e f = sym (some_below_hit p n i h (sym e ∙ f))

  pub searched_all : {i : ℕ} → Searched p n i → n ≤ i → false ≡ some_below p n
  searched_all {i} g h = let e : i ≡ n = omega arith in sym (rw e at g.none)
