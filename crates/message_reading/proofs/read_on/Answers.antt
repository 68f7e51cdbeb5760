use Rattle.std.specs.Prelude.{◌≡◌, Ok, Err}
use Rattle.std.proofs.Common.{arith}
use Rattle.std.proofs.lemmas.Grind.{common_steps}
use Rattle.message_reading.specs.Outcomes.{reading_none, reading_level, reading_asks, reading_next, reading_bad, reading_less, reading_end, indexed_bad}
use borrow.Author.Rules.{rules}
use Rattle.message_reading.proofs.read_on.Goals as goal

pub loop-s-init : goal.loop-s-init
loop-s-init c = search (reading_none, rules)

pub step-requires : goal.step-requires
step-requires c = record { at_event = search (reading_level, rules); can_ask = search (reading_asks, rules) }

pub loop-s-smaller : goal.loop-s-smaller
loop-s-smaller c = let e : c.step.result ≡ Ok c.in_ok-s.field-0 = c.in_ok-s.was in search (reading_less, rules)

pub loop-s-preserved : goal.loop-s-preserved
loop-s-preserved c = let e : c.step.result ≡ Ok c.in_ok-s.field-0 = c.in_ok-s.was in search (reading_next, rules)

pub returns-in_err-s : goal.returns-in_err-s
returns-in_err-s c =
    let d = c.in_err-s.field-0.0 in
    let e : c.step.result ≡ Err d = c.in_err-s.was in
    let r : c.from_residual.result ≡ Err d = grind (arith, common_steps) in
    record { read_from = rw r (search (reading_bad, rules)); indexed = search (indexed_bad, rules) }

pub finish-requires : goal.finish-requires
finish-requires c = search (reading_level, rules)

pub returns : goal.returns
returns c = record { read_from = search (reading_end, rules); indexed = search rules }
