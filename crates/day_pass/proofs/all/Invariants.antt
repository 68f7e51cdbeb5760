use Rattle.day_pass.specs.Passing.{Passing}
use Rattle.day_pass.proofs.all.Given as goal

abbrev pub invariant-loop-k : goal.invariant-loop-k
invariant-loop-k l = Passing l.book l.day l.plan l.initial.index l.initial.memory l.initial.answers l.initial.workspace l.initial.c l.count l.index l.memory l.answers l.workspace l.c l.k
