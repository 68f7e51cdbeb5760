use Rattle.std.specs.Prelude.{◌≡◌, Err}
use Rattle.std.proofs.Common.{arith}
use Rattle.std.proofs.lemmas.Grind.{common_steps}
use Rattle.refusals.specs.Numbers.{number_of, refused}
use Rattle.refusals.specs.Laws.{number_positive}
use Rattle.message_events.specs.Laws.{text_sized, text_short, text_laws}
use borrow.Author.Rules.{rules}
use Rattle.message_events.proofs.Reader.text.Goals as goal

pub returns-then-body-at-lt2 : goal.returns-then-body-at-lt2
returns-then-body-at-lt2 c = search (text_short, rules)

pub returns-then-body-at : goal.returns-then-body-at
returns-then-body-at c = rw c.refused-then-body-at.ensures (search (text_sized, text_laws, rules))

pub returns-in_err-map_err : goal.returns-in_err-map_err
returns-in_err-map_err c =
    let d = c.in_err-map_err.field-0.0 in
    let e : refused c.hold.result ≡ number_of d.refusal = grind (arith, common_steps) in
    let n : refused c.hold.result ≡ 0 → ⊥ = λ z. omega (arith, number_positive d.refusal) in
    let p : d.place ≡ c.args.self.place = grind (arith, common_steps) in
    let r : c.from_residual.result ≡ Err d = grind (arith, common_steps) in
    rw (r, p, ← e) (search (text_sized, text_laws, n, rules))

pub returns : goal.returns
returns c =
    let e : refused c.hold.result ≡ 0 = grind (arith, common_steps) in
    search (text_sized, text_laws, rules)
