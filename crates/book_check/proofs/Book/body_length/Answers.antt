use Rattle.book_contents.specs.BookAccepted.{entry_inside}
use Rattle.book_check.proofs.Book.body_length.Goals as goal

pub body_length-requires : goal.body_length-requires
body_length-requires c = entry_inside _ _ c.self.invariant (rw c.self.view_is c.requires)
