-- The refusal table of one message: the number at a place, by what is open after the events before it and by the bytes
-- that follow; b is what the book means to it. Section "Refusal numbers": "One message, each event checked in this
-- order". No reader has a part in it.
use Rattle.std.specs.Prelude.{Bool, true, false, ◌||◌, ◌&&◌, not, List, [], ◌∷◌, ℕ, ◌+◌, eqb, ltb, leb, length, get_or}
use Rattle.lists.specs.Choice.{pick}
use Rattle.lists.specs.Parts.{part}
use Rattle.lists.specs.Checks.{Check}
use Rattle.rules.specs.Bytes.{le2}
use Rattle.rules.specs.State.{any_element, any_attribute, attribute}
use Rattle.rules.specs.Book.{Meaning, out_of_range}
use Rattle.rules.specs.Message.{Event, start, text, end, most_open}

-- ── what is open ──
-- an open start, or the root: its label, and whether a child element and whether a text came in it
pub record Open : Type 0 where
  pub label : ℕ
  pub child : Bool
  pub said : Bool

-- the innermost, and those that it stands in; the outermost of all is the root, with label 0
pub record Opens : Type 0 where
  pub top : Open
  pub under : List Open

abbrev pub fresh : ℕ → Open
fresh x = record { label = x; child = false; said = false }

abbrev pub root_alone : Opens
root_alone = record { top = fresh 0; under = [] }

abbrev pub closed : Opens → List Open → Opens
closed o [] = o
closed o (l ∷ ls) = record { top = l; under = ls }

-- after one event more: a start opens, and an element is a child of what it stands in; a text is said; an end closes
abbrev pub opens_by : Opens → Event → Opens
opens_by o (start x) = record {
  top = fresh x;
  under = record { label = o.top.label; child = o.top.child || not (attribute x); said = o.top.said } ∷ o.under;
}
opens_by o (text s) = record { top = record { label = o.top.label; child = o.top.child; said = true }; under = o.under }
opens_by o (end x) = closed o o.under

unfoldable pub opens_after : Opens → List Event → Opens
opens_after o [] = o
opens_after o (ev ∷ evs) = opens_after (opens_by o ev) evs

-- nothing is open but the root
abbrev pub at_top : List Open → Bool
at_top [] = true
at_top (l ∷ ls) = false

-- ── the bytes that follow ──
abbrev pub no_more : List ℕ → Bool
no_more [] = true
no_more (c ∷ cs) = false

-- the first byte; where there is none, no kind
abbrev pub is_kind : ℕ → List ℕ → Bool
is_kind k rest = eqb (get_or rest 0 0) k

abbrev pub label_there : List ℕ → ℕ
label_there rest = le2 rest 1

abbrev pub text_there : List ℕ → List ℕ
text_there rest = part rest 2 (get_or rest 1 0)

-- "event runs past the body": a start and an end are 3 bytes, a text 2 and as many as its length byte says
abbrev pub cut_short : List ℕ → Bool
cut_short rest = pick (is_kind 2 rest) (ltb (length rest) (2 + get_or rest 1 0)) (ltb (length rest) 3)

-- ── the table ──
-- "start not allowed there (attribute at top, after a child element or after text; a second top element; anything
-- inside an attribute; element after text)"
abbrev pub start_amiss : Opens → ℕ → Bool
start_amiss o x =
    (attribute x && (at_top o.under || o.top.child || o.top.said)) || (not (attribute x) && at_top o.under && o.top.child)
    || attribute o.top.label || (not (attribute x) && o.top.said)

-- "text not allowed there (nothing open, a second text, after a child element)"
abbrev pub text_amiss : Opens → Bool
text_amiss o = at_top o.under || o.top.said || o.top.child

-- "end with nothing open or another label"
abbrev pub end_amiss : Opens → ℕ → Bool
end_amiss o x = at_top o.under || not (eqb x o.top.label)

abbrev pub message_rows : Meaning → Opens → List ℕ → List Check
message_rows b o rest =
    -- "kind is not 1, 2 or 3"
    record { number = 21; fails = not (no_more rest) && not (is_kind 1 rest || is_kind 2 rest || is_kind 3 rest) } ∷
    record { number = 22; fails = not (no_more rest) && cut_short rest } ∷
    -- "start label 0 or 32,768"
    record { number = 23; fails = is_kind 1 rest && (eqb (label_there rest) any_element || eqb (label_there rest) any_attribute) } ∷
    record { number = 24; fails = is_kind 1 rest && start_amiss o (label_there rest) } ∷
    -- "a 65th open start"
    record { number = 25; fails = is_kind 1 rest && leb most_open (length o.under) } ∷
    record { number = 26; fails = is_kind 2 rest && text_amiss o } ∷
    -- "whole number out of range"
    record { number = 27; fails = is_kind 2 rest && out_of_range b (text_there rest) } ∷
    record { number = 28; fails = is_kind 3 rest && end_amiss o (label_there rest) } ∷
    -- "after the last event, 29 the top element never came or is still open"
    record { number = 29; fails = no_more rest && not (at_top o.under && o.top.child) } ∷ []
