use borrow.Author.Rules.{rules}
use Rattle.set_complete.specs.Completing.{complete_laws}
use Rattle.set_complete.proofs.complete.Goals as goal

pub loop-k-preserved : goal.loop-k-preserved
loop-k-preserved c = search (complete_laws, c.type_inv.set, rules)
