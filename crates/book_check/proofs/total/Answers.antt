use borrow.Author.Rules.{rules}
use Rattle.book_check.specs.Steps.{summed_none}
use Rattle.book_check.proofs.total.Goals as goal

pub loop-k-init : goal.loop-k-init
loop-k-init c = search (summed_none, rules)
