use Rattle.set_work.specs.Answering.{Answering}
use Rattle.set_work.proofs.answer.Given as goal

abbrev pub invariant-loop-k : goal.invariant-loop-k
invariant-loop-k l = Answering l.states l.set l.label l.out l.k
