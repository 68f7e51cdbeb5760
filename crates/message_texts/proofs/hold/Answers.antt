use Rattle.lists.specs.Checks.{first_of}
use Rattle.rules.specs.Message.{text_refusal}
use Rattle.message_texts.specs.Texts.{hold_laws, held_by, held_at}
use borrow.Author.Rules.{rules}
use Rattle.message_texts.proofs.hold.Goals as goal

pub returns-then-d-eq0 : goal.returns-then-d-eq0
returns-then-d-eq0 c = search (hold_laws, rules)

pub returns-in-OutOfRange : goal.returns-in-OutOfRange
returns-in-OutOfRange c = search (hold_laws, rules)

pub returns-in_default : goal.returns-in_default
unfolding held_by held_at text_refusal first_of
returns-in_default c = search (hold_laws, rules)
