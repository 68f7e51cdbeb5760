use borrow.Author.Rules.{rules}
use Rattle.book_filter_body.specs.Found.{looking_hit}
use Rattle.book_filter_body.proofs.look.Goals as goal

pub returns-then-id_of-id : goal.returns-then-id_of-id
returns-then-id_of-id c = search (looking_hit, rules)
