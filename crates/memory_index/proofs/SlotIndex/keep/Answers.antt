use Rattle.memory_slots.specs.Slots.{lent_few, lent_has}
use Rattle.memory_index.proofs.Laws.{kept_indexed}
use borrow.Author.Rules.{rules}
use Rattle.memory_index.proofs.SlotIndex.keep.Goals as goal

pub keep-requires-clause-has_slot : goal.keep-requires-clause-has_slot
keep-requires-clause-has_slot c = search (lent_has, rules)

pub enter-requires : goal.enter-requires
enter-requires c = search (lent_few, rules)

pub returns-clause-still_indexed : goal.returns-clause-still_indexed
returns-clause-still_indexed c = search (kept_indexed, rules)
