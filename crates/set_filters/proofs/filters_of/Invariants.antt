use Rattle.set_filters.specs.Filters.{Rooting}
use Rattle.set_filters.proofs.filters_of.Given as goal

abbrev pub invariant-loop-k : goal.invariant-loop-k
invariant-loop-k l = Rooting l.book l.set l.k-end l.r l.first l.k
