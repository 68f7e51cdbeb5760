use Rattle.day_pass.specs.Passing.{passing_none, passing_ready, passing_more}
use borrow.Author.Rules.{rules}
use Rattle.day_pass.proofs.all.Goals as goal

pub loop-k-init : goal.loop-k-init
loop-k-init c = search (passing_none, rules)

pub message-c-requires-clause-message_ready : goal.message-c-requires-clause-message_ready
message-c-requires-clause-message_ready c = search (passing_ready, rules)

pub loop-k-preserved : goal.loop-k-preserved
loop-k-preserved c = search (passing_more, rules)
