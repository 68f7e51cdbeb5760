-- A question's promise allows one outcome: the result itself, and what the memory and the answer hold when the call ends.
use Rattle.std.specs.Prelude.{◌≡◌, List, ℕ, Result, Ok, Err}
use Rattle.std.proofs.Common.{ap, arith}
use Rattle.rules.specs.Calls.{QuestionLent, QuestionReturned}
use Rattle.rules.specs.Promise.{QuestionPromise, one_reply}
use Rattle.refusals.specs.declared.Refusal.{Refusal}
use Rattle.refusals.specs.Laws.{number_positive}
use Rattle.refusals.proofs.Alone.{number_alone}
use Rattle.memory_question.specs.declared.Kept.{Kept}
use Rattle.memory_question.specs.declared.Answered.{Answered}
use Rattle.memory_question.specs.Question.{answered_of, question_returned}

-- what comes to the same number and counts is the same
answered_alone : (r s : Result Kept Refusal) → answered_of r ≡ answered_of s → r ≡ s
answered_alone (Ok k) (Ok l) h = ap (λ (a : Answered). Ok (record { anew = a.anew; filled = a.filled })) h
answered_alone (Ok k) (Err f) h = absurd (omega (arith, number_positive f, ap (λ (a : Answered). a.refusal) h))
answered_alone (Err e) (Ok l) h = absurd (omega (arith, number_positive e, ap (λ (a : Answered). a.refusal) h))
answered_alone (Err e) (Err f) h = ap Err (number_alone e f (ap (λ (a : Answered). a.refusal) h))

abbrev answered_in : QuestionReturned → Answered
answered_in g = record { refusal = g.refusal; anew = g.reply.kept.anew; filled = g.reply.kept.filled }

pub reply_alone : (l : QuestionLent) (r s : Result Kept Refusal) (m a n b : List ℕ) → QuestionPromise l (question_returned (answered_of r) m a)
    → QuestionPromise l (question_returned (answered_of s) n b) → (r ≡ s) × (m ≡ n) × (a ≡ b)
reply_alone l r s m a n b p q =
    let h : question_returned (answered_of r) m a ≡ question_returned (answered_of s) n b = one_reply l p q in
    (answered_alone r s (ap answered_in h), ap (λ (g : QuestionReturned). g.reply.kept.memory) h, ap (λ (g : QuestionReturned). g.reply.answer) h)
