-- What the calls give, as the promises have it.
use Rattle.std.specs.Prelude.{List, ℕ, Result, Ok, Err}
use Rattle.rules.specs.Run.{Returned}
use Rattle.refusals.specs.Numbers.{number_of}
use Rattle.refusals.specs.declared.Refusal.{Refusal}
use Rattle.memory_ask.specs.declared.Counts.{Counts}
use Rattle.day_run.specs.declared.Total.{Total}

-- the number and the counts that a result comes to: "the number and zero counts" where the call is refused
abbrev pub total_of : Result Counts Refusal → Total
total_of (Ok c) = record { refusal = 0; asked = c.asked; anew = c.anew; filled = c.filled }
total_of (Err e) = record { refusal = number_of e; asked = 0; anew = 0; filled = 0 }

-- what a call gives, for its promise: its result, and what each slice holds when it ends
abbrev pub returned : Total → List ℕ → List ℕ → List ℕ → Returned
returned r memory answers workspace =
    record { refusal = r.refusal; asked = r.asked; anew = r.anew; filled = r.filled; memory = memory; answers = answers; workspace = workspace }
