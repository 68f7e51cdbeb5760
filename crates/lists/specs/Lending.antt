-- A lent slice in a promise: `was` is what a slice lent by &mut held when the call began, `left` what it holds when the
-- call ends; `held` and `stays` are the same of a slice lent by &.
use Rattle.std.specs.Borrow.{Bor, MutBor}
use denote.Triple.Both.{Both}
pub mod Laws

abbrev pub was : {X Y : Type 0} → Both (MutBor X) Y → X
was s = s.entry.now

abbrev pub left : {X Y : Type 0} → Both X (MutBor Y) → Y
left s = s.exit.now

abbrev pub held : {X Y : Type 0} → Both (Bor X) Y → X
held s = s.entry.now

abbrev pub stays : {X Y : Type 0} → Both X (Bor Y) → Y
stays s = s.exit.now
