use Rattle.memory_ask.specs.Laws.{anew_full, anew_kept}
use borrow.Author.Rules.{rules}
use Rattle.memory_ask.proofs.work_anew.Goals as goal

pub returns-then-c-lent-clause-answered : goal.returns-then-c-lent-clause-answered
returns-then-c-lent-clause-answered c = search (anew_kept, rules)

pub returns-clause-answered : goal.returns-clause-answered
returns-clause-answered c = search (anew_full, rules)
