use Rattle.message_ends.specs.Ends.{close_is}
use borrow.Author.Rules.{rules}
use Rattle.message_ends.proofs.close.Goals as goal

pub ask-next-requires : goal.ask-next-requires
ask-next-requires c = record { can_ask = search rules; question_long = (search rules, search rules) }

pub returns : goal.returns
returns c = record { closed = search (close_is, rules); indexed = search rules }
