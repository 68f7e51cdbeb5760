-- Two refusals of one number are the same, and so are two results that come to the same: what a promise says of the
-- number, it says of the result. What a message's result comes to, by computation.
use Rattle.std.specs.Prelude.{◌≡◌, refl, List, [], ◌∷◌, ℕ, get_or, Result, Ok, Err}
use Rattle.std.proofs.Common.{sym, ap, ◌∙◌, arith}
use Rattle.refusals.specs.declared.Refusal.{Refusal}
use Rattle.refusals.specs.declared.Refusal.TheVariants.{BookShort, ManyFilters, IdsFall, BadSizes, BodiesAstray, BadRows, BadSuccessors, DayOff, ManyMessages, MessagesAstray, FewAnswers, FewLevels, OverFilled, QuestionShape, GreatCount, BadKind, EventCut, AnyLabel, StartAstray, ManyOpen, TextAstray, OutOfRange, EndAstray, TopMissing}
use Rattle.refusals.specs.declared.Refused.{Refused}
use Rattle.refusals.specs.Numbers.{number_of, refused, refused_message, refused_place}
use Rattle.refusals.specs.Laws.{number_positive}

-- the refusal of each number; where there is none, any
abbrev by_number : List Refusal
by_number =
    BookShort ∷ BookShort ∷ ManyFilters ∷ IdsFall ∷ BadSizes ∷ BodiesAstray ∷ BadRows ∷ BadSuccessors ∷ DayOff ∷ ManyMessages ∷ MessagesAstray ∷
    FewAnswers ∷ FewLevels ∷ BookShort ∷ OverFilled ∷ BookShort ∷ BookShort ∷ BookShort ∷ QuestionShape ∷ GreatCount ∷ BookShort ∷ BadKind ∷
    EventCut ∷ AnyLabel ∷ StartAstray ∷ ManyOpen ∷ TextAstray ∷ OutOfRange ∷ EndAstray ∷ TopMissing ∷ []

found_again : (e : Refusal) → get_or by_number (number_of e) BookShort ≡ e
found_again e = elim e as (λ k. get_or by_number (number_of k) BookShort ≡ k) [
  | BookShort ↦ refl
  | ManyFilters ↦ refl
  | IdsFall ↦ refl
  | BadSizes ↦ refl
  | BodiesAstray ↦ refl
  | BadRows ↦ refl
  | BadSuccessors ↦ refl
  | DayOff ↦ refl
  | ManyMessages ↦ refl
  | MessagesAstray ↦ refl
  | FewAnswers ↦ refl
  | FewLevels ↦ refl
  | OverFilled ↦ refl
  | QuestionShape ↦ refl
  | GreatCount ↦ refl
  | BadKind ↦ refl
  | EventCut ↦ refl
  | AnyLabel ↦ refl
  | StartAstray ↦ refl
  | ManyOpen ↦ refl
  | TextAstray ↦ refl
  | OutOfRange ↦ refl
  | EndAstray ↦ refl
  | TopMissing ↦ refl
]

pub number_alone : (e f : Refusal) → number_of e ≡ number_of f → e ≡ f
number_alone e f h = sym (found_again e) ∙ ap (λ (n : ℕ). get_or by_number n BookShort) h ∙ found_again f

-- what is not refused comes to no refusal's number
pub accepted_by_0 : (x : Unit {0}) → refused (Ok x) ≡ 0
accepted_by_0 x = refl

pub refused_alone : (r s : Result (Unit {0}) Refusal) → refused r ≡ refused s → r ≡ s
refused_alone (Ok x) (Ok y) h = refl
refused_alone (Ok x) (Err f) h = absurd (omega (arith, number_positive f, h))
refused_alone (Err e) (Ok x) h = absurd (omega (arith, number_positive e, h))
refused_alone (Err e) (Err f) h = ap Err (number_alone e f h)

-- a message that is read, and one that is refused by 24 at place 9
pub read_at_0 : (x : Unit {0}) → refused_message (Ok x) ∷ refused_place (Ok x) ∷ [] ≡ 0 ∷ 0 ∷ []
read_at_0 x = refl

abbrev astray : Result (Unit {0}) Refused
astray = Err (record { refusal = StartAstray; place = 9 })

pub refused_at_9 : refused_message astray ∷ refused_place astray ∷ [] ≡ 24 ∷ 9 ∷ []
refused_at_9 = refl
