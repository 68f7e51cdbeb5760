use Rattle.day_pass.specs.Passing.{body_can_read, message_written}
use Rattle.std.proofs.Common.{arith}
use Rattle.day_pass.proofs.message.Goals as goal

pub read-e-requires-clause-can_read : goal.read-e-requires-clause-can_read
read-e-requires-clause-can_read c = body_can_read _ _ _ _ _ _ _ _ _ _ c.message_body-body.ensures.body c.message_body-body.ensures.accepted (omega arith) c.requires.message_ready

pub returns-clause-message_written : goal.returns-clause-message_written
returns-clause-message_written c =
    message_written _ _ _ _ _ _ _ _ _ _ _ _ _ _ _ c.requires.message_ready c.message_body-body.ensures.body c.message_body-body.ensures.accepted c.read-e.ensures.read_message c.root_filters-filters.ensures c.write_row.ensures
