-- The same for the two other public calls that ask questions.
use Rattle.std.specs.Prelude.{◌≡◌, refl, [], ◌∷◌, ℕ, get_or}
use Rattle.std.proofs.Common.{ap, arith}
use Rattle.rules.specs.Memory.{slot_width}
use Rattle.rules.specs.Run.{Returned}
use Rattle.rules.proofs.ASmallDay.Examples.{run_shown, full}
use Rattle.rules.specs.Calls.{pass_refusal, pass_from, question_refusal, answer_question}
use Rattle.rules.specs.Promise.{PassPromise, QuestionPromise}
use Rattle.wrong_programs.specs.Calls.{one_question, worked_reply, one_message, one_filled, worked_pass}

pub reply_shut : QuestionPromise one_question worked_reply → ⊥
unfolding run_shown answer_question question_refusal
reply_shut p = let d : ◌≡◌ {A = ℕ} 8192 full = ap (λ o. get_or o.reply.answer 0 0) p in omega arith

pub pass_shut : PassPromise one_message one_filled worked_pass → ⊥
unfolding run_shown pass_from pass_refusal
pass_shut p = let d : ◌≡◌ {A = ℕ} 8192 full = ap (λ g. get_or g.memory slot_width 0) p in omega arith

-- the wrong answer reaches the row too: filters 10 and 30 are true of the message and filter 20 is not, where by the
-- match rule filter 20 alone is
pub wrong_row : (g : Returned) → PassPromise one_message one_filled g → g.answers ≡ 0 ∷ 0 ∷ 5 ∷ []
unfolding run_shown pass_from pass_refusal
wrong_row g p = ap (λ h. h.answers) p

pub worked_row : worked_pass.answers ≡ 0 ∷ 0 ∷ 2 ∷ []
unfolding run_shown
worked_row = refl
