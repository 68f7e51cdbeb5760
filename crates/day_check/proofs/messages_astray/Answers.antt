use borrow.Author.Rules.{rules}
use Rattle.day_check.specs.Steps.{placed_none, placed_next}
use Rattle.day_check.proofs.messages_astray.Goals as goal

pub loop-k-init : goal.loop-k-init
loop-k-init c = search (placed_none, rules)

pub loop-k-preserved : goal.loop-k-preserved
loop-k-preserved c = search (placed_next, rules)
