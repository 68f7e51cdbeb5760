-- Message bodies and the refusal and place of each, proved by computation. Sections "Day file" (events, a message)
-- and "Refusal numbers",
-- 21 to 29: "place is the first byte of the refused event; for 29 the body length".
use Rattle.std.specs.Prelude.{◌≡◌, refl, List, [], ◌∷◌, ◌++◌, map, ℕ, ◌/◌, ◌%◌, length, replicate}
use Rattle.lists.specs.Choice.{pick}
use Rattle.lists.specs.Checks.{first_of}
use Rattle.rules.specs.Value.{
  strip_start,
  strip_before,
  strip_end,
  digits_from,
  some_digits,
  whole_number,
  text_value,
  is_out,
}
use Rattle.rules.specs.Message.{
  Keeper,
  Outcome,
  first_event,
  start_refusal,
  text_refusal,
  end_refusal,
  last_refusal,
  events,
  message,
}

-- ── events written out ──
abbrev pub begins : ℕ → List ℕ
begins x = 1 ∷ x % 256 ∷ x / 256 ∷ []

abbrev pub says : List ℕ → List ℕ
says s = 2 ∷ length s ∷ s

abbrev pub ends : ℕ → List ℕ
ends x = 3 ∷ x % 256 ∷ x / 256 ∷ []

abbrev pub all : List (List ℕ) → List ℕ
all [] = []
all (e ∷ es) = e ++ all es

-- an attribute's name
abbrev pub a : ℕ
a = 32769

-- an element 1 begun; an element 2 and an attribute, empty
abbrev pub top : List ℕ
top = begins 1

abbrev pub child : List ℕ
child = begins 2 ++ ends 2

abbrev pub mark : List ℕ
mark = begins a ++ ends a

-- the text 7
abbrev pub seven : List ℕ
seven = says (55 ∷ [])

-- ── what is read: a level holds its texts and the labels and contents of what was shut into it, the labels shut are
-- carried ──
abbrev pub noting : Keeper (List ℕ) (List ℕ)
noting = record { fresh = []; bars = λ s. is_out (text_value s); said = λ s c. c ++ s; shut = λ x c up ls. (up ++ x ∷ c, ls ++ x ∷ []) }

unfoldable pub read_out : List ℕ → Outcome (List ℕ) (List ℕ)
unfolding message events first_event start_refusal text_refusal end_refusal last_refusal first_of pick text_value whole_number
    some_digits digits_from strip_start strip_before strip_end
read_out body = message noting body (8 ∷ [])

pub record Row : Type 0 where
  pub events : List (List ℕ)
  pub refusal : ℕ
  pub place : ℕ

abbrev pub row : List (List ℕ) → ℕ → ℕ → Row
row es e p = record { events = es; refusal = e; place = p }

abbrev pub Read : List Row → Type 0
Read rows = map (λ (r : Row). (read_out (all r.events)).refusal ∷ (read_out (all r.events)).place ∷ []) rows
    ≡ map (λ (r : Row). r.refusal ∷ r.place ∷ []) rows

-- "a message is one top element. Inside an element: attributes, then either child elements or at most one text"; "a
-- message that is read
-- has refusal 0 and place 0"
pub good : Read (
    row (top ∷ ends 1 ∷ []) 0 0 ∷
    row (begins 32767 ∷ ends 32767 ∷ []) 0 0 ∷
    row (top ∷ seven ∷ ends 1 ∷ []) 0 0 ∷
    row (top ∷ says [] ∷ ends 1 ∷ []) 0 0 ∷
    row (top ∷ says (replicate 255 97) ∷ ends 1 ∷ []) 0 0 ∷
    row (top ∷ mark ∷ begins 65535 ∷ seven ∷ ends 65535 ∷ mark ∷ ends 1 ∷ []) 0 0 ∷
    row (top ∷ mark ∷ seven ∷ ends 1 ∷ []) 0 0 ∷
    row (top ∷ begins a ∷ seven ∷ ends a ∷ seven ∷ ends 1 ∷ []) 0 0 ∷
    row (top ∷ begins a ∷ seven ∷ ends a ∷ child ∷ child ∷ ends 1 ∷ []) 0 0 ∷
    row (top ∷ begins 2 ∷ mark ∷ seven ∷ ends 2 ∷ child ∷ ends 1 ∷ []) 0 0 ∷ [])
unfolding read_out
good = refl

-- "21 kind is not 1, 2 or 3", before 22
pub kinds : Read (
    row ((0 ∷ []) ∷ []) 21 0 ∷ row ((4 ∷ []) ∷ []) 21 0 ∷ row ((255 ∷ []) ∷ []) 21 0 ∷
    row (top ∷ (0 ∷ []) ∷ []) 21 3 ∷ row (top ∷ (4 ∷ 1 ∷ 0 ∷ []) ∷ []) 21 3 ∷
    row (top ∷ says (97 ∷ 98 ∷ 99 ∷ []) ∷ (9 ∷ []) ∷ []) 21 8 ∷
    row (top ∷ ends 1 ∷ (0 ∷ []) ∷ []) 21 6 ∷ [])
unfolding read_out
kinds = refl

-- "22 event runs past the body", before 23, 26 and 28
pub cut_short : Read (
    row ((1 ∷ []) ∷ []) 22 0 ∷ row ((1 ∷ 0 ∷ []) ∷ []) 22 0 ∷ row ((1 ∷ 1 ∷ []) ∷ []) 22 0 ∷ row ((2 ∷ []) ∷
    []) 22 0 ∷
    row ((3 ∷ []) ∷ []) 22 0 ∷ row ((3 ∷ 1 ∷ []) ∷ []) 22 0 ∷
    row (top ∷ (2 ∷ []) ∷ []) 22 3 ∷ row (top ∷ (2 ∷ 1 ∷ []) ∷ []) 22 3 ∷ row (top ∷ (2 ∷ 3 ∷ 55 ∷ 55 ∷ []) ∷
    []) 22 3 ∷
    row (top ∷ (2 ∷ 2 ∷ 55 ∷ 55 ∷ []) ∷ []) 29 7 ∷ row (top ∷ (2 ∷ 0 ∷ []) ∷ []) 29 5 ∷
    row (top ∷ (3 ∷ 1 ∷ []) ∷ []) 22 3 ∷ [])
unfolding read_out
cut_short = refl

-- "23 start label 0 or 32,768", before 24
pub no_labels : Read (
    row (begins 0 ∷ []) 23 0 ∷ row (begins 32768 ∷ []) 23 0 ∷ row (top ∷ begins 0 ∷ []) 23 3 ∷ row (top ∷
    begins 32768 ∷ []) 23 3 ∷
    row (top ∷ begins a ∷ begins 0 ∷ []) 23 6 ∷ row (top ∷ ends 1 ∷ begins 0 ∷ []) 23 6 ∷ [])
unfolding read_out
no_labels = refl

-- "24 start not allowed there": "attribute at top, after a child element or after text; a second top element;
-- anything inside an
-- attribute; element after text"
pub starts_astray : Read (
    row (begins a ∷ []) 24 0 ∷ row (begins 65535 ∷ []) 24 0 ∷
    row (top ∷ child ∷ begins a ∷ []) 24 9 ∷
    row (top ∷ seven ∷ begins a ∷ []) 24 6 ∷
    row (top ∷ ends 1 ∷ begins 1 ∷ []) 24 6 ∷ row (top ∷ ends 1 ∷ begins a ∷ []) 24 6 ∷
    row (top ∷ begins a ∷ begins 2 ∷ []) 24 6 ∷ row (top ∷ begins a ∷ begins a ∷ []) 24 6 ∷
    row (top ∷ begins a ∷ seven ∷ begins 2 ∷ []) 24 9 ∷
    row (top ∷ seven ∷ begins 2 ∷ []) 24 6 ∷ row (top ∷ mark ∷ seven ∷ begins 2 ∷ []) 24 12 ∷ [])
unfolding read_out
starts_astray = refl

-- "at most 64 starts are open at once"; "25 a 65th open start": an element where 63, 64 and 65 are open
pub starts_open : map (λ (n : ℕ). start_refusal n 1 0 1) (63 ∷ 64 ∷ 65 ∷ []) ≡ 0 ∷ 25 ∷ 25 ∷ []
unfolding read_out
starts_open = refl

-- after 24
pub depth : Read (
    row (replicate 64 top ++ replicate 64 (ends 1)) 0 0 ∷
    row (replicate 63 top ++ mark ∷ replicate 63 (ends 1)) 0 0 ∷
    row (replicate 64 top) 29 192 ∷
    row (replicate 65 top) 25 192 ∷
    row (replicate 64 top ++ begins a ∷ []) 25 192 ∷
    row (replicate 64 top ++ begins 0 ∷ []) 23 192 ∷
    row (replicate 63 top ++ begins a ∷ begins 1 ∷ []) 24 192 ∷ [])
unfolding read_out
depth = refl

-- "26 text not allowed there (nothing open, a second text, after a child element)", before 27
pub texts_astray : Read (
    row (seven ∷ []) 26 0 ∷ row (top ∷ ends 1 ∷ seven ∷ []) 26 6 ∷
    row (top ∷ seven ∷ seven ∷ []) 26 6 ∷ row (top ∷ begins a ∷ seven ∷ seven ∷ []) 26 9 ∷
    row (top ∷ child ∷ seven ∷ []) 26 9 ∷
    row (top ∷ seven ∷ says (replicate 10 57) ∷ []) 26 6 ∷ [])
unfolding read_out
texts_astray = refl

-- "27 whole number out of range"
pub numbers_out : Read (
    row (top ∷ says (replicate 10 57) ∷ []) 27 3 ∷ row (top ∷ says (45 ∷ replicate 10 57) ∷ []) 27 3 ∷
    row (top ∷ begins a ∷ says (replicate 10 57) ∷ []) 27 6 ∷
    row (top ∷ says (replicate 9 57) ∷ ends 1 ∷ []) 0 0 ∷
    row (top ∷ says (replicate 10 57 ++ 97 ∷ []) ∷ ends 1 ∷ []) 0 0 ∷ [])
unfolding read_out
numbers_out = refl

-- "28 end with nothing open or another label"
pub ends_astray : Read (
    row (ends 1 ∷ []) 28 0 ∷ row (ends 0 ∷ []) 28 0 ∷ row (top ∷ ends 1 ∷ ends 1 ∷ []) 28 6 ∷ row (top ∷ ends 1 ∷
    ends 0 ∷ []) 28 6 ∷
    row (top ∷ ends 2 ∷ []) 28 3 ∷ row (top ∷ ends 0 ∷ []) 28 3 ∷ row (top ∷ ends 257 ∷ []) 28 3 ∷ row (top ∷
    begins 2 ∷ ends 1 ∷ []) 28 6 ∷
    row (top ∷ begins a ∷ ends 1 ∷ []) 28 6 ∷ row (top ∷ child ∷ ends 2 ∷ []) 28 9 ∷ [])
unfolding read_out
ends_astray = refl

-- "after the last event, 29 the top element never came or is still open"
pub unfinished : Read (
    row [] 29 0 ∷ row (top ∷ []) 29 3 ∷ row (top ∷ child ∷ []) 29 9 ∷ row (top ∷ seven ∷ []) 29 6 ∷ row (top ∷
    begins a ∷ []) 29 6 ∷
    row (top ∷ begins 2 ∷ ends 2 ∷ []) 29 9 ∷ [])
unfolding read_out
unfinished = refl

-- ── what is kept: levels and what is carried, of a message read, and of one refused after an end ──
abbrev pub kept : List ℕ → List (List ℕ)
kept body = (read_out body).root ∷ (read_out body).state ∷ []

pub carried_on : kept (all (top ∷ begins a ∷ says (54 ∷ []) ∷ ends a ∷ begins 2 ∷ seven ∷ ends 2 ∷ child ∷ ends 1 ∷
    []))
    ≡ (1 ∷ a ∷ 54 ∷ 2 ∷ 55 ∷ 2 ∷ []) ∷ (8 ∷ a ∷ 2 ∷ 2 ∷ 1 ∷ []) ∷ []
unfolding read_out
carried_on = refl

-- "a refused event asks none; earlier questions of its message stay"
pub refused_after : (read_out (all (top ∷ mark ∷ child ∷ begins a ∷ ends a ∷ []))).state ≡ 8 ∷ a ∷ 2 ∷ []
unfolding read_out
refused_after = refl
