use Rattle.std.proofs.Common.{not, rules}
use borrow.Author.Tests.{tests}
use Rattle.rules.specs.Book.{leads_at, bad_successors}
use Rattle.book_rows.specs.Rows.{some_states}
use Rattle.book_rows.proofs.bad_successors.Goals as goal

pub returns : goal.returns
unfolding bad_successors
returns c = let b = c.args.book.now in some_states b (λ at i n. not (leads_at b at i n)) _ c.some_state.ensures (λ at i n t a. search (rules, tests))
