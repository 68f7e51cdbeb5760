use Rattle.std.proofs.Common.{ℕ, ◌<◌, false}
use Rattle.rules.specs.Book.{body_start, body_size}
use Rattle.book_rows.specs.Rows.{Answers}
use Rattle.book_rows.proofs.some_state.Given as goal

abbrev pub invariant-loop-k : goal.invariant-loop-k
invariant-loop-k g l = (k : ℕ) → k < l.k → (i : ℕ) → i < body_size l.book k → Answers (goal.F-post g l.test) (body_start l.book k) (body_size l.book k) i false
