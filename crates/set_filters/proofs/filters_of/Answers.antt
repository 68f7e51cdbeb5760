use borrow.Author.Rules.{rules}
use Rattle.set_filters.specs.Filters.{rooting_more}
use Rattle.set_filters.proofs.filters_of.Goals as goal

pub loop-k-preserved : goal.loop-k-preserved
loop-k-preserved c = search (rooting_more, rules)
