use Rattle.day_pass.specs.Passing.{pass_is}
use borrow.Author.Rules.{rules}
use Rattle.day_pass.proofs.pass.Goals as goal

pub returns : goal.returns
returns c = search (pass_is, rules)
