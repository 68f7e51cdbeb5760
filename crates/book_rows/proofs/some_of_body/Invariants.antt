use Rattle.std.proofs.Common.{ℕ, ◌<◌, false}
use Rattle.book_rows.specs.Rows.{Answers}
use Rattle.book_rows.proofs.some_of_body.Given as goal

abbrev pub invariant-loop-i : goal.invariant-loop-i
invariant-loop-i g l = (i : ℕ) → i < l.i → Answers (goal.F-post g l.test) l.start l.n i false
