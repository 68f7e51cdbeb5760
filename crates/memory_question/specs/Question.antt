-- What the inner call gives, as its promise has it, beside what it is lent; and what a question that is not refused has.
use Rattle.std.specs.Prelude.{◌≡◌, List, ℕ, ◌<◌, ◌≤◌, length, Result, Ok, Err}
use Rattle.rules.specs.Sets.{set_width}
use Rattle.rules.specs.Memory.{question_width, slots_lent}
use Rattle.rules.specs.Calls.{count_limit, QuestionReturned}
use Rattle.refusals.specs.declared.Refusal.{Refusal}
use Rattle.refusals.specs.Numbers.{number_of}
use Rattle.memory_ask.specs.declared.Counts.{Counts}
use Rattle.memory_ask.specs.Ask.{count_most}
use Rattle.memory_question.specs.declared.Kept.{Kept}
use Rattle.memory_question.specs.declared.Answered.{Answered}
pub use Rattle.memory_refusals.specs.Question.{question_lent}

-- the number and the counts that a result comes to: "the number and zero counts" where the question is refused
abbrev pub answered_of : Result Kept Refusal → Answered
answered_of (Ok k) = record { refusal = 0; anew = k.anew; filled = k.filled }
answered_of (Err e) = record { refusal = number_of e; anew = 0; filled = 0 }

-- its result, and what the memory and the answer hold when it ends
abbrev pub question_returned : Answered → List ℕ → List ℕ → QuestionReturned
question_returned r m a = record { refusal = r.refusal; reply = record { answer = a; kept = record { memory = m; anew = r.anew; filled = r.filled } } }

-- what an accepted question has
pub record Answerable (memory : List ℕ) (c : Counts) (q answer : List ℕ) : Type 0 where
  pub question : length q ≡ question_width
  pub room : length answer ≡ set_width
  pub lent : c.filled ≤ slots_lent memory
  pub asked : c.asked < count_most
  pub anew : c.anew < count_limit
