use Rattle.book_planner.specs.Make.{Body}
use Rattle.book_planner.proofs.body.Given as goal

abbrev pub invariant-loop-i : goal.invariant-loop-i
invariant-loop-i l = Body l.book l.at l.initial.plan l.plan l.i
