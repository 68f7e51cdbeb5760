-- What a run that is not refused has, and a pass from filled slots: section "Refusal numbers", read the other way round.
use Rattle.std.specs.Prelude.{List, ℕ, ◌*◌, ◌<◌, ◌≤◌, length}
use Rattle.rules.specs.DayFile.{message_count}
use Rattle.rules.specs.Memory.{slots_lent}
use Rattle.rules.specs.Run.{row_width, workspace_width}
use Rattle.rules.specs.Calls.{count_limit}
use Rattle.memory_ask.specs.declared.Counts.{Counts}

pub record RunAccepted (day memory answers workspace : List ℕ) (c : Counts) : Type 0 where
  pub room : row_width * message_count day ≤ length answers
  pub levels : workspace_width ≤ length workspace
  pub lent : c.filled ≤ slots_lent memory
  pub asked : c.asked < count_limit
  pub anew : c.anew < count_limit
