use borrow.Author.Rules.{rules}
use Rattle.number_text.specs.Laws.{end_front}
use Rattle.number_text.proofs.strip_end.Goals as goal

pub returns-then-not-space : goal.returns-then-not-space
returns-then-not-space c = search (end_front, rules)
