-- The number that each refusal has in the table of refusals, and what a result comes to: "the result is then the number".
use Rattle.std.specs.Prelude.{ℕ, Result, Ok, Err}
use Rattle.refusals.specs.declared.Refusal.{Refusal}
use Rattle.refusals.specs.declared.Refusal.TheVariants.{BookShort, ManyFilters, IdsFall, BadSizes, BodiesAstray, BadRows, BadSuccessors, DayOff, ManyMessages, MessagesAstray, FewAnswers, FewLevels, OverFilled, QuestionShape, GreatCount, BadKind, EventCut, AnyLabel, StartAstray, ManyOpen, TextAstray, OutOfRange, EndAstray, TopMissing}
use Rattle.refusals.specs.declared.Refused.{Refused}

abbrev pub number_of : Refusal → ℕ
number_of BookShort = 1
number_of ManyFilters = 2
number_of IdsFall = 3
number_of BadSizes = 4
number_of BodiesAstray = 5
number_of BadRows = 6
number_of BadSuccessors = 7
number_of DayOff = 8
number_of ManyMessages = 9
number_of MessagesAstray = 10
number_of FewAnswers = 11
number_of FewLevels = 12
number_of OverFilled = 14
number_of QuestionShape = 18
number_of GreatCount = 19
number_of BadKind = 21
number_of EventCut = 22
number_of AnyLabel = 23
number_of StartAstray = 24
number_of ManyOpen = 25
number_of TextAstray = 26
number_of OutOfRange = 27
number_of EndAstray = 28
number_of TopMissing = 29

-- a result's refusal, 0 where nothing is refused
abbrev pub refused : {A : Type 0} → Result A Refusal → ℕ
refused (Ok x) = 0
refused (Err e) = number_of e

-- a message's refusal and its place: "a message that is read has refusal 0 and place 0"
abbrev pub refused_message : {A : Type 0} → Result A Refused → ℕ
refused_message (Ok x) = 0
refused_message (Err e) = number_of e.refusal

abbrev pub refused_place : {A : Type 0} → Result A Refused → ℕ
refused_place (Ok x) = 0
refused_place (Err e) = e.place
