use Rattle.std.proofs.Common.{arith}
use Rattle.book_rows.specs.Rows.{inside}
use Rattle.book_rows.proofs.some_state.Goals as goal

pub some_of_body-requires-clause-callable : goal.some_of_body-requires-clause-callable
some_of_body-requires-clause-callable g c =
    let whole = inside _ _ c.body_start-start.ensures.0 c.body_size.ensures.0 c.filter_count-k-end.ensures.0 c.loop-k-test.true c.requires.placed.1 in
    λ i h. c.requires.callable _ _ _ (omega (arith, whole))
