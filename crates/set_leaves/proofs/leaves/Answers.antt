use borrow.Author.Rules.{rules}
use Rattle.std.proofs.Common.{◌∙◌}
use Rattle.set_leaves.specs.Leaves.{leafing_more, joins_leaf, joins_none}
use Rattle.set_leaves.proofs.leaves.Goals as goal
use Rattle.set_leaves.proofs.leaves.Goals.{then-leaf, else-leaf}

pub loop-k-preserved : goal.loop-k-preserved
loop-k-preserved c =
    elim c.if-leaf.branch [
      | then-leaf w ↦
          leafing_more _ _ _ _ _ _ c.loop-k.invariant (search rules) (joins_leaf _ _ _ _ _ _ c.leaf.ensures w.if-leaf.true (w.set-is ∙ w.put.ensures))
          (rw w.set-is (search rules))
      | else-leaf w ↦
          leafing_more _ _ _ _ _ _ c.loop-k.invariant (search rules) (w.set-is ∙ joins_none _ _ _ _ _ c.leaf.ensures w.if-leaf.false)
          (rw w.set-is c.loop-k.invariant.1.numbers)
    ]
