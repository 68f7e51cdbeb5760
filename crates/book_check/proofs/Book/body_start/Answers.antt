use Rattle.book_contents.specs.BookAccepted.{entry_inside}
use Rattle.book_check.proofs.Book.body_start.Goals as goal

pub body_start-requires : goal.body_start-requires
body_start-requires c = entry_inside _ _ c.self.invariant (rw c.self.view_is c.requires)
