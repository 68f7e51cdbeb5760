use Rattle.day_check.specs.DayAccepted.{entry_inside}
use Rattle.day_check.proofs.Day.message_body.Goals as goal

pub message_start-start-requires : goal.message_start-start-requires
message_start-start-requires c = entry_inside _ _ c.self.invariant (rw c.self.view_is c.requires)

pub message_length-n-requires : goal.message_length-n-requires
message_length-n-requires c = entry_inside _ _ c.self.invariant (rw c.self.view_is c.requires)
