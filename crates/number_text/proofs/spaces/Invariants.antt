use Rattle.number_text.specs.Laws.{Starting}
use Rattle.number_text.proofs.spaces.Given as goal

abbrev pub invariant-loop-i : goal.invariant-loop-i
invariant-loop-i l = Starting l.s l.i
