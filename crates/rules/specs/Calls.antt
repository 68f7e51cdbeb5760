-- The two calls beside the run that ask questions: the pass from any filled slots, and the inner call with no run
-- around it. Section "Questions and the memory". Both take any arguments; refusals 14, 18 and 19 are theirs, and the
-- paper gives them no number (docs/DECISIONS.md).
use Rattle.std.specs.Prelude.{◌||◌, not, List, [], ◌∷◌, ◌++◌, ℕ, ◌^◌, eqb, ltb, leb, length}
use Rattle.lists.specs.Choice.{pick}
use Rattle.lists.specs.Checks.{Check, first_of}
use Rattle.rules.specs.Book.{book_checks, states_of}
use Rattle.rules.specs.Sets.{set_width}
use Rattle.rules.specs.Memory.{question_width, question_in, slots_lent, Kept, Reply, ask}
use Rattle.rules.specs.Pass.{Carried}
use Rattle.rules.specs.Run.{Lent, Returned, run_checks, refused_run, pass_day}

-- ── "the pass over the messages promises this from any filled slots, wrong answers and all" ──
-- 2^63: a count below it stays below 2^64, whatever a day file asks
abbrev pub count_limit : ℕ
count_limit = 2 ^ 63

-- the counts that it starts from: asked, worked out anew, filled
pub record Counts : Type 0 where
  pub asked : ℕ
  pub anew : ℕ
  pub filled : ℕ

abbrev pub counts : ℕ → ℕ → ℕ → Counts
counts asked anew filled = record { asked = asked; anew = anew; filled = filled }

abbrev pub carried_from : Counts → List ℕ → Carried
carried_from c memory = record { asked = c.asked; kept = record { memory = memory; anew = c.anew; filled = c.filled } }

-- after the run's refusals
abbrev pub count_checks : Lent → Counts → List Check
count_checks l c =
    -- more slots are said to be filled than C: "C is the lent count div 17, at most 4,096"
    record { number = 14; fails = ltb (slots_lent l.memory) c.filled } ∷
    -- a count of 2^63 or more, which a day file might raise past 64 bits
    record { number = 19; fails = leb count_limit c.asked || leb count_limit c.anew } ∷ []

unfoldable pub pass_refusal : Lent → Counts → ℕ
pass_refusal l c = first_of (run_checks l ++ count_checks l c)

unfoldable pub pass_from : Lent → Counts → Returned
pass_from l c = pick (eqb (pass_refusal l c) 0) (pass_day l (carried_from c l.memory)) (refused_run l (pass_refusal l c))

-- ── "one inner call answers a question" ──
-- what is lent to it: a book, a question's nine numbers, room for the answer, the memory and its counts
pub record QuestionLent : Type 0 where
  pub book : List ℕ
  pub question : List ℕ
  pub room : List ℕ
  pub kept : Kept

-- what it gives back: its refusal, the answer, and the memory and its counts
pub record QuestionReturned : Type 0 where
  pub refusal : ℕ
  pub reply : Reply

-- after the book's refusals 1 to 7
abbrev pub question_checks : QuestionLent → List Check
question_checks l =
    -- the question is not nine numbers, or the room for the answer not eight
    record { number = 18; fails = not (eqb (length l.question) question_width) || not (eqb (length l.room) set_width) } ∷
    -- more slots are said to be filled than C, as in the pass from filled slots
    record { number = 14; fails = ltb (slots_lent l.kept.memory) l.kept.filled } ∷
    -- a count worked out anew of 2^63 or more, as there
    record { number = 19; fails = leb count_limit l.kept.anew } ∷ []

unfoldable pub question_refusal : QuestionLent → ℕ
question_refusal l = first_of (book_checks l.book ++ question_checks l)

-- refused: the number and zero counts, and the room for the answer and the memory as they were
unfoldable pub answer_question : QuestionLent → QuestionReturned
answer_question l = pick (eqb (question_refusal l) 0)
    (record { refusal = 0; reply = ask (states_of l.book) (question_in l.question) l.kept })
    (record { refusal = question_refusal l; reply = record { answer = l.room; kept = record { memory = l.kept.memory; anew = 0; filled = 0 } } })
