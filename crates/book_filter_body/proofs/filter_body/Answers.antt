use borrow.Author.Rules.{rules}
use Rattle.book_filter_body.specs.Found.{part_inside, body_handed}
use Rattle.book_filter_body.proofs.filter_body.Goals as goal

pub overflow_add-result : goal.overflow_add-result
overflow_add-result c = let h = part_inside _ _ c.part_of-p.ensures in search rules

pub slice_bounds-result-end : goal.slice_bounds-result-end
slice_bounds-result-end c = let h = part_inside _ _ c.part_of-p.ensures in search rules

pub returns : goal.returns
returns c = body_handed _ _ c.part_of-p.ensures _ c.args.book.ref_ptr.1
