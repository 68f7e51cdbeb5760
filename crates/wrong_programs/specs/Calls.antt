-- The same for the two other public calls that ask questions: a program that works every question out, where a slot
-- that is filled holds a wrong answer.
use Rattle.std.specs.Prelude.{List, ◌∷◌, ℕ, replicate}
use Rattle.rules.specs.Book.{states_of, meaning_of}
use Rattle.rules.specs.Message.{Outcome, message}
use Rattle.rules.specs.Memory.{key_of}
use Rattle.rules.specs.Pass.{Carried, answer_row}
use Rattle.rules.specs.Run.{row_width, workspace_width, Lent, Returned}
use Rattle.rules.specs.ASmallDay as Small
use Rattle.rules.specs.Calls.{Counts, QuestionLent, QuestionReturned}
use Rattle.wrong_programs.specs.Runs.{working_out, wrong, empty_two, asking_worked_out, two_in_one, from_wrong}

-- ── the inner call ──
-- asked of the small day's book what the wrong slot asks
abbrev pub one_question : QuestionLent
one_question = record { book = Small.book; question = key_of empty_two; room = replicate 8 0; kept = wrong }

abbrev pub worked_reply : QuestionReturned
worked_reply = record { refusal = 0; reply = working_out (states_of Small.book) empty_two wrong }

-- ── the pass from filled slots ──
-- a day of one message, and the wrong slot
abbrev pub one_message : Lent
one_message = record {
  book = Small.book;
  day = 1 ∷ 0 ∷ 10 ∷ 0 ∷ 0 ∷ 0 ∷ 12 ∷ 0 ∷ 0 ∷ 0 ∷ two_in_one;
  memory = wrong.memory;
  answers = replicate row_width 9;
  workspace = replicate workspace_width 5;
}

abbrev pub one_filled : Counts
one_filled = record { asked = 0; anew = 0; filled = 1 }

abbrev pub worked_pass : Returned
worked_pass =
    let o : Outcome (List ℕ) Carried = message (asking_worked_out (meaning_of Small.book)) two_in_one from_wrong in
    record {
      refusal = 0;
      asked = o.state.asked;
      anew = o.state.kept.anew;
      filled = o.state.kept.filled;
      memory = o.state.kept.memory;
      answers = answer_row Small.book o;
      workspace = replicate workspace_width 0;
    }
