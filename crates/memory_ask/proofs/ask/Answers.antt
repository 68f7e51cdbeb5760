use Rattle.memory_ask.specs.Laws.{found_room, found_none, ask_found}
use borrow.Author.Rules.{rules}
use Rattle.memory_ask.proofs.ask.Goals as goal

pub recall-requires : goal.recall-requires
recall-requires c = search (found_room, rules)

pub work_anew-requires-clause-unasked : goal.work_anew-requires-clause-unasked
work_anew-requires-clause-unasked c = found_none _ _ _ _ c.find.ensures c.in-None.is

pub returns-in-Some-clause-answered : goal.returns-in-Some-clause-answered
returns-in-Some-clause-answered c = search (ask_found, rules)
