use Rattle.book_check.specs.Steps.{Summed}
use Rattle.book_check.proofs.total.Given as goal

abbrev pub invariant-loop-k : goal.invariant-loop-k
invariant-loop-k l = Summed l.book l.k-end l.sum l.k
