use native.Mathlib.Omega.{arith}
use Rattle.memory_index.proofs.Laws.{indexed_begun}
use Rattle.memory_index.proofs.SlotIndex.index_all.Goals as goal

pub loop-i-init : goal.loop-i-init
loop-i-init c = indexed_begun _ _ _ _ _ (c.fill.ensures.after (λ y e. e)) (c.fill-2.ensures.after (λ y e. e)) (omega arith)
