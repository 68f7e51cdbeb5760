-- What is lent to the inner call, as its promise has it.
use Rattle.std.specs.Prelude.{List, ℕ}
use Rattle.rules.specs.Calls.{QuestionLent}

-- what each slice of a call held when the call began, and the counts
abbrev pub question_lent : List ℕ → List ℕ → ℕ → ℕ → List ℕ → List ℕ → QuestionLent
question_lent book memory filled anew q answer =
    record { book = book; question = q; room = answer; kept = record { memory = memory; anew = anew; filled = filled } }
