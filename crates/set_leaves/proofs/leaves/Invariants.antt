use Rattle.number_text.specs.Meant.{meant}
use Rattle.set_leaves.specs.Leaves.{Leafing}
use Rattle.set_leaves.proofs.leaves.Given as goal

abbrev pub invariant-loop-k : goal.invariant-loop-k
invariant-loop-k l = Leafing l.state-items (meant l.value) l.initial.set l.set l.k
