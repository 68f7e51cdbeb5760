use Rattle.lists.proofs.Same.Comparing.{Comparing}
use Rattle.memory_index.proofs.same.Given as goal

abbrev pub invariant-loop-i : goal.invariant-loop-i
invariant-loop-i l = Comparing l.asked l.q l.i
