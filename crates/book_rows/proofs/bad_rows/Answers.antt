use Rattle.std.proofs.Common.{not, rules}
use borrow.Author.Tests.{tests}
use Rattle.rules.specs.Book.{row_at, bad_rows}
use Rattle.book_rows.specs.Rows.{some_states}
use Rattle.book_rows.proofs.bad_rows.Goals as goal

pub returns : goal.returns
unfolding bad_rows
returns c = let b = c.args.book.now in some_states b (λ at i n. not (row_at b at)) _ c.some_state.ensures (λ at i n t a. search (rules, tests))
