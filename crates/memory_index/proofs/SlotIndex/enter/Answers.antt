use Rattle.memory_index.proofs.Laws.{entering_parts}
use Rattle.memory_index.proofs.SlotIndex.enter.Goals as goal

pub returns : goal.returns
returns c = entering_parts _ _ _ c.self.view_is c.self.told.0 _ _ c.requires.1
