use Rattle.memory_index.proofs.Laws.{Walking}
use Rattle.memory_index.proofs.SlotIndex.find.Given as goal

abbrev pub invariant-loop-p : goal.invariant-loop-p
invariant-loop-p l = Walking l.memory l.q l.filled l.p

abbrev pub decreases-loop-p : goal.decreases-loop-p
decreases-loop-p l = l.p
