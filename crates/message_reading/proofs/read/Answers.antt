use Rattle.message_reading.specs.Outcomes.{read_whole}
use borrow.Author.Rules.{rules}
use Rattle.message_reading.proofs.read.Goals as goal

pub returns : goal.returns
returns c = record { read_message = search (read_whole, rules); indexed = search rules }
