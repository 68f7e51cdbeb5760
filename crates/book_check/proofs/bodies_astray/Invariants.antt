use Rattle.book_check.specs.Steps.{Placed}
use Rattle.book_check.proofs.bodies_astray.Given as goal

abbrev pub invariant-loop-k : goal.invariant-loop-k
invariant-loop-k l = Placed l.book l.k-end l.place l.k
