use Rattle.set_bits.specs.Join.{Joining}
use Rattle.set_bits.proofs.join.Given as goal

abbrev pub invariant-loop-i : goal.invariant-loop-i
invariant-loop-i l = Joining l.initial.set l.other l.set l.i
