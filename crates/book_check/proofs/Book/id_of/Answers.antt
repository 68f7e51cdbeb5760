use Rattle.book_contents.specs.BookAccepted.{entry_inside}
use Rattle.book_check.proofs.Book.id_of.Goals as goal

pub id_of-requires : goal.id_of-requires
id_of-requires c = entry_inside _ _ c.self.invariant (rw c.self.view_is c.requires)
