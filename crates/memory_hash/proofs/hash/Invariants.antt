use Rattle.std.specs.Prelude.{drop}
use Rattle.memory_hash.specs.Hash.{Joining, moves}
use Rattle.memory_hash.proofs.hash.Given as goal

abbrev pub invariant-loop-i : goal.invariant-loop-i
invariant-loop-i l = Joining l.q l.joined (drop l.i moves) (drop l.i l.q)
