use Rattle.message_levels.specs.Laws.{levels_clear}
use borrow.Author.Rules.{rules}
use Rattle.message_levels.proofs.clear.Goals as goal

pub returns : goal.returns
returns c = search (levels_clear, c.fill.ensures.after (λ y e. e), rules)
