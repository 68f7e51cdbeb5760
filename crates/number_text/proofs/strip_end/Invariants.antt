use Rattle.number_text.specs.Laws.{Ending}
use Rattle.number_text.proofs.strip_end.Given as goal

abbrev pub invariant-loop-i : goal.invariant-loop-i
invariant-loop-i l = Ending l.s l.i
