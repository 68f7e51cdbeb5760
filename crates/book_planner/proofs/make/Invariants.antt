use Rattle.book_planner.specs.Make.{Making}
use Rattle.book_planner.proofs.make.Given as goal

abbrev pub invariant-loop-k : goal.invariant-loop-k
invariant-loop-k l = Making l.book l.plan l.k
