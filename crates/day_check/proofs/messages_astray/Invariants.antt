use Rattle.day_check.specs.Steps.{Placed}
use Rattle.day_check.proofs.messages_astray.Given as goal

abbrev pub invariant-loop-k : goal.invariant-loop-k
invariant-loop-k l = Placed l.day l.n l.place l.k
