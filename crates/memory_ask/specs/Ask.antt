-- The counts and the memory as the definition carries them, and beside them the answer; what a question needs to be asked.
use Rattle.std.specs.Prelude.{List, ℕ, ◌-◌, ◌^◌, ◌<◌}
use Rattle.rules.specs.Pass.{Carried}
use Rattle.memory_index.specs.Index.{Indexed}
use Rattle.memory_ask.specs.declared.Counts.{Counts}

abbrev pub carried_in : List ℕ → Counts → Carried
carried_in m c = record { asked = c.asked; kept = record { memory = m; anew = c.anew; filled = c.filled } }

abbrev pub replied : List ℕ → List ℕ → Counts → List ℕ × Carried
replied a m c = (a, carried_in m c)

-- the greatest number of 64 bits: a count below it can rise
abbrev pub count_most : ℕ
count_most = 2 ^ 64 - 1

-- a question can be asked: the index of the filled slots, and counts that can rise
pub record CanAsk (index memory : List ℕ) (c : Counts) : Type 0 where
  pub indexed : Indexed index memory c.filled
  pub asked : c.asked < count_most
  pub anew : c.anew < count_most
