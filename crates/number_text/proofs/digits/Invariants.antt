use Rattle.number_text.specs.Laws.{ReadingDigits}
use Rattle.number_text.proofs.digits.Given as goal

abbrev pub invariant-loop-x : goal.invariant-loop-x
invariant-loop-x l = ReadingDigits l.minus l.s l.n l.x-index
