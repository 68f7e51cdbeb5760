-- Runs refused by what is lent and one that is accepted, proved by computation. Section "Refusal numbers".
use Rattle.std.specs.Prelude.{◌≡◌, refl, List, [], ◌∷◌, ◌++◌, map, ℕ, ◌+◌, ◌*◌, ◌-◌, replicate, take, drop}
use Rattle.rules.specs.Memory.{question_width, slot_width}
use Rattle.lists.specs.Below.{some_below, flags}
use Rattle.rules.specs.Book.{
  id_of,
  is_row,
  leads_well,
  book_short,
  ids_fall,
  bad_sizes,
  bodies_astray,
  bad_rows,
  bad_successors,
}
use Rattle.rules.specs.DayFile.{
  message_count,
  message_start,
  message_length,
  bytes_before,
  message_body,
  day_off,
  messages_astray,
}
use Rattle.rules.specs.Match.{filters_where}
use Rattle.rules.specs.Pass.{answer_row, pass_to}
use Rattle.rules.proofs.Pass.Examples.{book, day, slot, carried, passed}
use Rattle.rules.specs.Run.{
  Lent,
  Returned,
  run_refusal,
  pass_day,
  run,
  with_memory,
  workspace_width,
  row_width,
  level_width,
  levels,
}

-- lent with noise in it
abbrev pub noisy : List ℕ → List ℕ → ℕ → ℕ → ℕ → Lent
noisy b d memory answers workspace = record {
  book = b;
  day = d;
  memory = replicate memory 6;
  answers = replicate answers 9;
  workspace = replicate workspace 5;
}

-- three messages want nine answers; memory of two slots and one number
abbrev pub lending : List ℕ → List ℕ → ℕ → ℕ → Lent
lending b d answers workspace = noisy b d (2 * slot_width + 1) answers workspace

unfoldable pub refusal_of : Lent → ℕ
unfolding run_refusal passed some_below id_of is_row leads_well book_short ids_fall bad_sizes bodies_astray bad_rows
    bad_successors message_count message_start message_length bytes_before day_off messages_astray
refusal_of l = run_refusal l

-- "a slot is 17", "three 64-bit numbers for each message", "at least 650: 65 levels of ten"
pub widths : question_width ∷ slot_width ∷ row_width ∷ level_width ∷ levels ∷ workspace_width ∷ [] ≡ 9 ∷ 17 ∷ 3 ∷ 10 ∷ 65 ∷ 650 ∷ []
widths = refl

-- "11: fewer than 3N answer numbers lent"; "12: workspace under 650"; "649 workspace numbers are 12"; checked after
-- the book's and the day
-- file's, in this order
pub refusals : map refusal_of (
    lending book day 9 workspace_width ∷ lending book day 10 (workspace_width + 1) ∷ lending book (0 ∷ 0 ∷ []) 0 workspace_width ∷
    lending book day 8 workspace_width ∷ lending book day 0 workspace_width ∷ lending book day 9 (workspace_width - 1) ∷ lending book day 9 0 ∷
    lending book day 8 (workspace_width - 1) ∷
    lending book (take 62 day) 8 (workspace_width - 1) ∷ lending book [] 9 workspace_width ∷ lending (take 65 book) (take 62 day) 8 (workspace_width - 1) ∷
    lending [] [] 0 0 ∷ [])
    ≡ 0 ∷ 0 ∷ 0 ∷ 11 ∷ 11 ∷ 12 ∷ 12 ∷ 11 ∷ 10 ∷ 8 ∷ 5 ∷ 1 ∷ []
unfolding refusal_of
refusals = refl

-- from no filled slots
unfoldable pub ran : Lent → Returned
unfolding refusal_of run pass_day pass_to answer_row filters_where flags message_body
ran l = run l

-- refusal and counts, the whole of the answers, the workspace from number 648 on, the memory past the filled slots
abbrev pub shown : Returned → List ℕ
shown g = g.refusal ∷ g.asked ∷ g.anew ∷ g.filled ∷
    (g.answers ++ drop (workspace_width - 2) g.workspace ++ drop (slot_width * g.filled) g.memory)

-- "three 64-bit numbers for each message"; "answers past 3N, memory past the filled slots and workspace past 650 are
-- unchanged; the first 650 of the workspace are 0"
pub gives : shown (ran (lending book day 10 (workspace_width + 1)))
    ≡ 0 ∷ 5 ∷ 3 ∷ 2 ∷ 0 ∷ 0 ∷ 1 ∷ 21 ∷ 6 ∷ 0 ∷ 0 ∷ 0 ∷ 1 ∷ 9 ∷ 0 ∷ 0 ∷ 5 ∷ 6 ∷ []
unfolding ran
gives = refl

-- and all of it
abbrev pub after : ℕ → ℕ → Returned
after asked anew = record {
  refusal = 0;
  asked = asked;
  anew = anew;
  filled = 2;
  memory = slot 4 2 2 ++ (slot 2 1 17 ++ 6 ∷ []);
  answers = 0 ∷ 0 ∷ 1 ∷ 21 ∷ 6 ∷ 0 ∷ 0 ∷ 0 ∷ 1 ∷ 9 ∷ [];
  workspace = replicate workspace_width 0 ++ 5 ∷ [];
}

-- the run; and, the pass alone, from counts 40 and 30
pub accepted : ran (lending book day 10 (workspace_width + 1)) ∷ pass_day (lending book day 10 (workspace_width + 1)) (carried 40 30 0 (replicate (2 * slot_width + 1) 6)) ∷
    [] ≡ after 5 3 ∷ after 45 33 ∷ []
unfolding ran
accepted = refl

-- "the number and zero counts, and answers, memory and workspace keep every number they had"
abbrev pub kept : ℕ → ℕ → ℕ → Returned
kept e answers workspace = record {
  refusal = e;
  asked = 0;
  anew = 0;
  filled = 0;
  memory = replicate (2 * slot_width + 1) 6;
  answers = replicate answers 9;
  workspace = replicate workspace 5;
}

pub refused : map ran (lending book day 8 (workspace_width + 1) ∷ lending book day 10 (workspace_width - 1) ∷ lending [] day 10 (workspace_width + 1) ∷ [])
    ≡ kept 11 8 (workspace_width + 1) ∷ kept 12 10 (workspace_width - 1) ∷ kept 1 10 (workspace_width + 1) ∷ []
unfolding ran
refused = refl

-- another memory, and all else as it was
pub other_memory : with_memory (record {
  book = 1 ∷ [];
  day = 2 ∷ [];
  memory = 3 ∷ [];
  answers = 4 ∷
      [];
  workspace = 5 ∷ [];
}) (6 ∷ [])
    ≡ record { book = 1 ∷ []; day = 2 ∷ []; memory = 6 ∷ []; answers = 4 ∷ []; workspace = 5 ∷ [] }
other_memory = refl
