use Rattle.memory_slots.specs.Slots.{lent_few, lent_has}
use Rattle.memory_index.proofs.Laws.{added_seen, added_unseen}
use borrow.Author.Rules.{rules}
use Rattle.memory_index.proofs.SlotIndex.add.Goals as goal

pub question-q-requires : goal.question-q-requires
question-q-requires c = search (lent_has, rules)

pub enter-requires : goal.enter-requires
enter-requires c = search (lent_few, rules)

pub returns-then-is_none : goal.returns-then-is_none
returns-then-is_none c = added_unseen _ _ _ _ _ _ c.requires.0 c.requires.1 c.question-q.ensures.0 c.find.ensures _ c.if-is_none.ensures c.hash-h.ensures.0 c.enter.ensures

pub returns-else-is_none : goal.returns-else-is_none
returns-else-is_none c = added_seen _ _ _ _ c.hash-h.result _ c.requires.0 c.requires.1 c.question-q.ensures.0 c.find.ensures c.if-is_none.ensures
