use Rattle.message_step.specs.Kinds.{step_start, step_text, step_end, step_none, start_indexed, text_indexed}
use borrow.Author.Rules.{rules}
use Rattle.message_step.proofs.step.Goals as goal

pub returns-in-1 : goal.returns-in-1
returns-in-1 c = search (step_start, start_indexed, rules)

pub returns-in-2 : goal.returns-in-2
returns-in-2 c = search (step_text, text_indexed, rules)

pub returns-in-3 : goal.returns-in-3
returns-in-3 c = search (step_end, rules)

pub returns-in_default : goal.returns-in_default
returns-in_default c = rw c.refused.ensures (search (step_none, rules))
