use Rattle.book_contents.specs.BookAccepted.{entry_inside}
use Rattle.book_check.proofs.Book.body_size.Goals as goal

pub body_size-requires : goal.body_size-requires
body_size-requires c = entry_inside _ _ c.self.invariant (rw c.self.view_is c.requires)
