use Rattle.memory_refusals.specs.Laws.{refused_on}
use Rattle.memory_refusals.proofs.refusal_of.Goals as goal

pub returns-in_err-book-clause-refusal : goal.returns-in_err-book-clause-refusal
returns-in_err-book-clause-refusal c = refused_on _ _ _ c.in_err-book.ensures.promise c.from_residual.ensures.1
