use Rattle.memory_index.specs.Index.{Indexed}
use Rattle.memory_index.proofs.SlotIndex.index_all.Given as goal

abbrev pub invariant-loop-i : goal.invariant-loop-i
invariant-loop-i l = Indexed l.self l.memory l.i
