use Rattle.std.proofs.Common.{◌∙◌, ap, refl, rules}
use borrow.Author.Tests.{tests}
use Rattle.lists.specs.Below.{some_below}
use Rattle.lists.specs.Below.Ranges.{any_below}
use Rattle.book_contents.specs.BookAccepted.{empty_at}
use Rattle.book_check.proofs.some_empty.Goals as goal

pub returns : goal.returns
returns c =
    any_below (empty_at c.args.book.now) _ c.any.ensures.ran refl (λ x b q k. search (rules, tests))
    ∙ ap (some_below (empty_at c.args.book.now)) c.filter_count.ensures.0
