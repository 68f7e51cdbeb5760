use Rattle.book_planner.specs.Make.{body_more}
use Rattle.book_planner.proofs.body.Goals as goal

pub loop-i-preserved : goal.loop-i-preserved
loop-i-preserved c = rw c.push.ensures (body_more _ _ _ _ _ _ _ _ c.loop-i.invariant c.len-base.ensures c.state_at.ensures c.state.ensures)
