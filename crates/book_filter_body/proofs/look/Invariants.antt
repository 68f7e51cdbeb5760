use Rattle.book_filter_body.specs.Found.{Looking}
use Rattle.book_filter_body.proofs.look.Given as goal

abbrev pub invariant-loop-k : goal.invariant-loop-k
invariant-loop-k l = Looking l.book l.id l.k
