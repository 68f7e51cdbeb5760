-- Where one state leads: to states of the book, and AND, OR and NOT to higher ones.
use Rattle.std.specs.Prelude.{ℕ, ◌<◌}
use Rattle.rules.specs.State.{State, TRUE, LEAF, AND, OR, NOT, STEP}

-- successors are states below n
abbrev pub Inside : State → ℕ → Type 0
Inside TRUE n = Unit {0}
Inside (LEAF t) n = Unit {0}
Inside (AND i j) n = (i < n) × (j < n)
Inside (OR i j) n = (i < n) × (j < n)
Inside (NOT i) n = i < n
Inside (STEP l s) n = s < n

-- AND, OR and NOT lead to states above k
abbrev pub Higher : State → ℕ → Type 0
Higher TRUE k = Unit {0}
Higher (LEAF t) k = Unit {0}
Higher (AND i j) k = (k < i) × (k < j)
Higher (OR i j) k = (k < i) × (k < j)
Higher (NOT i) k = k < i
Higher (STEP l s) k = Unit {0}
