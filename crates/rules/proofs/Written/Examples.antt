-- Events written out and the shape of trees, proved by computation. Section "Day file", events and a message.
use Rattle.std.specs.Prelude.{◌≡◌, refl, Bool, true, false, List, [], ◌∷◌, ◌++◌, map, ℕ, zero, suc, replicate}
use Rattle.std.proofs.Math.Option.{Option, none, some}
use Rattle.lists.specs.Choice.{pick}
use Rattle.rules.specs.Book.{Meaning}
use Rattle.rules.specs.Value.{out_of_range, strip_start, strip_before, strip_end, digits_from, some_digits, whole_number, text_value}
use Rattle.rules.specs.Tree.{Forest, childless, tree, Content}
use Rattle.rules.specs.Message.{start, end, text}
use Rattle.rules.specs.Written.{
  written_events,
  written,
  has_element,
  is_childless,
  text_fits,
  in_range_for,
  is_none,
  child_fits,
  shaped,
  one_element,
  message_shaped,
}

-- "`1` start, label (2 bytes); `2` text, length (1 byte), that many bytes; `3` end, label (2 bytes)"
pub events_written : written_events (start 258 ∷ text (7 ∷ 8 ∷ 9 ∷ []) ∷ text [] ∷ end 32772 ∷ [])
    ≡ 1 ∷ 2 ∷ 1 ∷ 2 ∷ 3 ∷ 7 ∷ 8 ∷ 9 ∷ 2 ∷ 0 ∷ 3 ∷ 4 ∷ 128 ∷ []
unfolding written_events
events_written = refl

-- one more child, without children of its own
abbrev pub and_child : Forest → ℕ → Option (List ℕ) → Forest
and_child f x t = tree f x t childless

abbrev pub attributed : Forest
attributed = and_child childless 32769 none

abbrev pub seven : Option (List ℕ)
seven = some (55 ∷ [])

-- children in their order, attributes before the text
pub trees_written : map written (childless ∷ tree childless 1 seven attributed ∷ and_child attributed 2 none ∷
    tree childless 1 none (and_child (and_child childless 2 none) 3 seven) ∷ [])
    ≡ [] ∷ (1 ∷ 1 ∷ 0 ∷ 1 ∷ 1 ∷ 128 ∷ 3 ∷ 1 ∷ 128 ∷ 2 ∷ 1 ∷ 55 ∷ 3 ∷ 1 ∷ 0 ∷ []) ∷
    (1 ∷ 1 ∷ 128 ∷ 3 ∷ 1 ∷ 128 ∷ 1 ∷ 2 ∷ 0 ∷ 3 ∷ 2 ∷ 0 ∷ []) ∷
    (1 ∷ 1 ∷ 0 ∷ 1 ∷ 2 ∷ 0 ∷ 3 ∷ 2 ∷ 0 ∷ 1 ∷ 3 ∷ 0 ∷ 2 ∷ 1 ∷ 55 ∷ 3 ∷ 3 ∷ 0 ∷ 3 ∷ 1 ∷ 0 ∷ []) ∷ []
unfolding written
trees_written = refl

-- ── the shape ──
pub with_element : map has_element (childless ∷ attributed ∷ and_child attributed 2 none ∷
    and_child (and_child childless 2 none) 32769 none ∷
    tree childless 32769 none (and_child childless 2 none) ∷ [])
    ≡ false ∷ false ∷ true ∷ true ∷ false ∷ []
unfolding has_element
with_element = refl

pub childless_only : map is_childless (childless ∷ attributed ∷ and_child attributed 2 none ∷ [])
    ≡ true ∷ false ∷ false ∷ []
childless_only = refl

pub none_only : map is_none (none ∷ some [] ∷ seven ∷ []) ≡ true ∷ false ∷ false ∷ []
none_only = refl

-- "length (1 byte)": 255 bytes at most
pub texts_fit : map text_fits (none ∷ some [] ∷ some (replicate 255 97) ∷ some (replicate 256 97) ∷
    some (replicate 10 57) ∷ [])
    ≡ true ∷ true ∷ true ∷ false ∷ true ∷ []
texts_fit = refl

-- a book without filters, and one to which every text is out of range
abbrev pub plain : Meaning
plain = record { states = []; reads = text_value }

abbrev pub deaf : Meaning
deaf = record { states = []; reads = λ s. out_of_range }

-- "27 whole number out of range", as the book reads it
pub texts_ranged : map (in_range_for plain) (none ∷ some [] ∷ some (replicate 256 97) ∷ some (replicate 9 57) ∷
    some (replicate 10 57) ∷ []) ++ map (in_range_for deaf) (none ∷ some [] ∷ [])
    ≡ true ∷ true ∷ true ∷ true ∷ false ∷ true ∷ false ∷ []
unfolding text_value whole_number some_digits digits_from strip_start strip_before strip_end pick
texts_ranged = refl

-- the last child's label, after no child: "1 to 32,767 are element names, 32,769 to 65,535 attribute names"
pub labels_fit : map (λ (x : ℕ). child_fits childless x none childless) (0 ∷ 1 ∷ 32767 ∷ 32768 ∷ 32769 ∷ 65535 ∷
    65536 ∷ [])
    ≡ false ∷ true ∷ true ∷ false ∷ true ∷ true ∷ false ∷ []
unfolding has_element pick
labels_fit = refl

-- a child with a label, a text and its own children, after some children
pub record Row : Type 0 where
  pub before : Forest
  pub label : ℕ
  pub said : Option (List ℕ)
  pub kids : Forest
  pub fits : Bool

abbrev pub row : Forest → ℕ → Option (List ℕ) → Forest → Bool → Row
row f x t kids b = record { before = f; label = x; said = t; kids = kids; fits = b }

abbrev pub Fitting : List Row → Type 0
Fitting rows = map (λ (r : Row). child_fits r.before r.label r.said r.kids) rows
    ≡ map (λ (r : Row). r.fits) rows

-- "an attribute is a start, at most one text, and an end", before the elements; "attributes, then either child
-- elements or at most one text"
pub children_fit : Fitting (
    row attributed 32770 none childless true ∷
    row attributed 32770 seven childless true ∷
    row (and_child childless 2 none) 32769 none childless false ∷
    row childless 32769 none attributed false ∷
    row childless 32769 none (and_child childless 2 none) false ∷
    row (and_child childless 2 none) 2 none childless true ∷
    row childless 2 seven childless true ∷
    row childless 2 seven attributed true ∷
    row childless 2 none (and_child attributed 2 none) true ∷
    row childless 2 seven (and_child attributed 2 none) false ∷ [])
unfolding has_element pick
children_fit = refl

-- n elements 1, each in the one before
abbrev pub nested : ℕ → Forest
nested zero = childless
nested (suc n) = tree childless 1 none (nested n)

-- room for two open starts: each child fits, the texts fit, and so at every depth
pub shapes : map (shaped plain 2) (
    childless ∷ nested 1 ∷ nested 2 ∷ nested 3 ∷
    and_child attributed 2 none ∷ and_child (and_child childless 2 none) 32769 none ∷
    tree (nested 3) 1 none childless ∷ tree (nested 2) 1 none (nested 1) ∷
    and_child childless 2 (some (replicate 10 57)) ∷
    and_child (and_child childless 2 (some (replicate 10 57))) 2 none ∷
    tree childless 1 none (and_child childless 2 (some (replicate 10 57))) ∷
    tree childless 1 none (and_child childless 0 none) ∷ and_child childless 2 (some (replicate 256 97)) ∷ [])
    ++ map (shaped deaf 2) (nested 1 ∷ tree (and_child childless 2 seven) 1 none childless ∷ tree childless 1 none (and_child childless 2 seven) ∷ [])
    ≡ true ∷ true ∷ true ∷ false ∷ true ∷ false ∷ false ∷ true ∷ false ∷ false ∷ false ∷ false ∷ false ∷ true ∷ false ∷ false ∷ []
unfolding shaped has_element pick text_value whole_number some_digits digits_from strip_start strip_before strip_end
shapes = refl

-- "a message is one top element"
pub one_element_lem : map one_element (childless ∷ nested 1 ∷ attributed ∷ and_child (nested 1) 1 none ∷
    and_child attributed 1 none ∷ []) ≡ false ∷ true ∷ false ∷ false ∷ false ∷ []
unfolding one_element
one_element_lem = refl

-- the root has no text; "at most 64 starts are open at once"
abbrev pub holding : Option (List ℕ) → Forest → Content
holding t f = record { text = t; children = f }

pub messages_shaped : map (message_shaped plain) (holding none (nested 1) ∷ holding seven (nested 1) ∷ holding none childless ∷
    holding none attributed ∷
    holding none (and_child (nested 1) 1 none) ∷ holding none (nested 64) ∷ holding none (nested 65) ∷
    holding none (and_child childless 0 none) ∷ []) ++ map (message_shaped deaf) (holding none (and_child childless 1 seven) ∷ [])
    ≡ true ∷ false ∷ false ∷ false ∷ false ∷ true ∷ false ∷ false ∷ false ∷ []
unfolding message_shaped one_element shaped has_element pick
messages_shaped = refl
