use Rattle.memory_question.specs.Laws.{refuses_on, answers, answerable}
use Rattle.std.specs.Prelude.{refl}
use Rattle.memory_question.proofs.answer_question.Goals as goal

pub returns-in_err-book : goal.returns-in_err-book
returns-in_err-book c = refuses_on _ _ _ _ _ _ _ _ c.in_err-book.ensures.refusal c.from_residual.ensures.1

pub ask_alone-next-requires : goal.ask_alone-next-requires
ask_alone-next-requires c = answerable _ _ _ _ _ _ _ c.in_ok-book.ensures.refusal refl

pub returns : goal.returns
returns c = answers _ _ _ _ _ _ _ c.in_ok-book.ensures.refusal _ _ _ _ _ refl (rw c.in_ok-book.ensures.same at c.ask_alone-next.ensures)
