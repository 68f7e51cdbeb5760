use Rattle.message_reading.specs.Outcomes.{ReadingOn}
use Prim.Native.Nat.{◌-◌}
use lib.ListN.{length}
use Rattle.message_reading.proofs.read_on.Given as goal

abbrev pub invariant-loop-s : goal.invariant-loop-s
invariant-loop-s l = ReadingOn l.body l.plan l.initial.index l.initial.memory l.initial.workspace l.initial.s l.index l.memory l.workspace l.s

abbrev pub decreases-loop-s : goal.decreases-loop-s
decreases-loop-s l = length l.body - l.s.place
