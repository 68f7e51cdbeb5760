use Rattle.std.specs.Prelude.{◌≡◌}
use Rattle.std.proofs.Common.{arith}
use Rattle.std.proofs.lemmas.Grind.{common_steps}
use Rattle.refusals.specs.Numbers.{refused}
use Rattle.message_events.specs.Laws.{end_laws}
use borrow.Author.Rules.{rules}
use Rattle.message_events.proofs.Reader.end.Goals as goal

pub returns-clause-ended : goal.returns-clause-ended
returns-clause-ended c =
    let e : refused c.end_refusal.result ≡ 0 = grind (arith, common_steps) in
    search (end_laws, rules)
