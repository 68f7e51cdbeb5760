-- No refusal has the number 0, that of nothing refused.
use Rattle.std.specs.Prelude.{◌<◌}
use Rattle.std.proofs.Common.{arith}
use Rattle.refusals.specs.declared.Refusal.{Refusal}
use Rattle.refusals.specs.declared.Refusal.TheVariants.{BookShort, ManyFilters, IdsFall, BadSizes, BodiesAstray, BadRows, BadSuccessors, DayOff, ManyMessages, MessagesAstray, FewAnswers, FewLevels, OverFilled, QuestionShape, GreatCount, BadKind, EventCut, AnyLabel, StartAstray, ManyOpen, TextAstray, OutOfRange, EndAstray, TopMissing}
use Rattle.refusals.specs.Numbers.{number_of}

pub number_positive : (e : Refusal) → 0 < number_of e
number_positive e = elim e as (λ k. 0 < number_of k) [
  | BookShort ↦ omega arith
  | ManyFilters ↦ omega arith
  | IdsFall ↦ omega arith
  | BadSizes ↦ omega arith
  | BodiesAstray ↦ omega arith
  | BadRows ↦ omega arith
  | BadSuccessors ↦ omega arith
  | DayOff ↦ omega arith
  | ManyMessages ↦ omega arith
  | MessagesAstray ↦ omega arith
  | FewAnswers ↦ omega arith
  | FewLevels ↦ omega arith
  | OverFilled ↦ omega arith
  | QuestionShape ↦ omega arith
  | GreatCount ↦ omega arith
  | BadKind ↦ omega arith
  | EventCut ↦ omega arith
  | AnyLabel ↦ omega arith
  | StartAstray ↦ omega arith
  | ManyOpen ↦ omega arith
  | TextAstray ↦ omega arith
  | OutOfRange ↦ omega arith
  | EndAstray ↦ omega arith
  | TopMissing ↦ omega arith
]
