use Rattle.std.proofs.Common.{◌∙◌, refl, rules}
use borrow.Author.Tests.{tests}
use Rattle.lists.specs.Below.Ranges.{any_between}
use Rattle.book_contents.specs.BookAccepted.{falls_at}
use Rattle.book_check.specs.Steps.{falls_before, falls_next, ids_is}
use Rattle.book_check.proofs.ids_fall.Goals as goal

pub returns : goal.returns
returns c =
    let b = c.args.book.now in
    any_between (falls_before b) (falls_at b) 1 _ c.any.ensures.ran refl (λ x t q k. search (rules, tests)) (falls_next b) ∙ ids_is b _ c.filter_count-f.ensures.0
