use Rattle.std.proofs.Common.{arith}
use Rattle.book_planner.specs.Make.{making_leads, making_more, making_all}
use Rattle.book_planner.proofs.make.Goals as goal

pub body-requires-clause-leads : goal.body-requires-clause-leads
body-requires-clause-leads c = rw c.bytes.ensures.same (making_leads _ _ _ c.loop-k.invariant (omega arith) c.body_start.ensures.0 c.body_size.ensures.0)

pub loop-k-preserved : goal.loop-k-preserved
loop-k-preserved c = making_more _ _ _ c.loop-k.invariant (omega arith) c.body_start.ensures.0 c.body_size.ensures.0 _ (rw c.bytes.ensures.same at c.body.ensures)

pub returns : goal.returns
returns c = making_all _ _ _ c.loop-k.invariant (omega arith)
