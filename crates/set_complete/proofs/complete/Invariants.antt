use Rattle.set_complete.specs.Completing.{Completing}
use Rattle.set_complete.proofs.complete.Given as goal

abbrev pub invariant-loop-k : goal.invariant-loop-k
invariant-loop-k l = Completing l.states l.asked l.set l.k
