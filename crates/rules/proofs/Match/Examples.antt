-- Nodes and the states that match them, proved by computation. Section "Match rule".
use Rattle.std.specs.Prelude.{◌≡◌, refl, Bool, true, false, ◌&&◌, List, [], ◌∷◌, ◌++◌, map, ℕ, eqb, length, pos, negsuc}
use Rattle.std.proofs.Math.Option.{Option, none, some}
use Rattle.lists.specs.Choice.{pick}
use Rattle.lists.specs.Below.{up_to, flags}
use Rattle.rules.specs.Bytes.{signed4}
use Rattle.rules.specs.State.{
  Relation,
  equal,
  differs,
  below,
  at_most,
  above,
  at_least,
  compares,
  State,
  TRUE,
  LEAF,
  AND,
  OR,
  NOT,
  STEP,
  fits,
}
use Rattle.rules.proofs.State.Examples.{signs}
use Rattle.rules.specs.Book.{
  filter_count,
  body_start,
  body_size,
  states_before,
  relation_of,
  state_at,
  states_of_first,
  states_of,
  Meaning,
}
use Rattle.rules.proofs.Book.Examples.{kinds}
use Rattle.rules.specs.Value.{
  Value,
  no_text,
  no_number,
  out_of_range,
  number,
  strip_start,
  strip_before,
  strip_end,
  digits_from,
  some_digits,
  whole_number,
  text_value,
}
use Rattle.rules.proofs.Value.Examples.{long}
use Rattle.rules.specs.Tree.{Forest, childless, tree, Content, empty}
use Rattle.rules.proofs.Written.Examples.{and_child, holding}
use Rattle.rules.specs.Match.{
  test_holds,
  says,
  settle,
  some_child,
  matches,
  filters_where,
  accepted_filters,
  child_by,
}

-- "no value, or no number, matches no LEAF, whichever the relation"; 4 to the constant 5
pub leaves : map (λ (v : Value). map (λ (r : Relation). test_holds v (compares r (pos 5))) signs) (
    no_text ∷ no_number ∷ out_of_range ∷ number (pos 4) ∷ [])
    ≡ (false ∷ false ∷ false ∷ false ∷ false ∷ false ∷ []) ∷
    (false ∷ false ∷ false ∷ false ∷ false ∷ false ∷ []) ∷
    (false ∷ false ∷ false ∷ false ∷ false ∷ false ∷ []) ∷
    (false ∷ true ∷ true ∷ true ∷ false ∷ false ∷ []) ∷ []
leaves = refl

-- each kind, of a node with value 4 where a child with label 2 matches state 7, and of the states 0 alone matches
pub kinds_say : map (λ (s : State). says s (number (pos 4)) (λ l s. eqb l 2 && eqb s 7) (λ j. eqb j 0)) (
    TRUE ∷ LEAF (compares above (pos 3)) ∷ LEAF (compares above (pos 4)) ∷ AND 0 0 ∷ AND 0 1 ∷ AND 1 0 ∷ AND 1 1 ∷ OR 0 0 ∷ OR 0 1 ∷
    OR 1 0 ∷ OR 1 1 ∷
    NOT 0 ∷ NOT 1 ∷ STEP 2 7 ∷ STEP 2 0 ∷ STEP 7 2 ∷ STEP 0 7 ∷ [])
    ≡ true ∷ true ∷ false ∷ true ∷ false ∷ false ∷ false ∷ true ∷ true ∷ true ∷ false ∷
    false ∷ true ∷ true ∷ false ∷ false ∷ false ∷ []
kinds_say = refl

-- ── nodes ──
-- states of a book that reads texts as the paper says
abbrev pub reading : List State → Meaning
reading b = record { states = b; reads = text_value }

-- 0 AND 1 2; 1 STEP 2→5; 2 STEP 32,768→5; 3 STEP 0→6; 4 NOT 5; 5 LEAF = 5; 6 TRUE
abbrev pub seven : List State
seven = AND 1 2 ∷ STEP 2 5 ∷ STEP 32768 5 ∷ STEP 0 6 ∷ NOT 5 ∷ LEAF (compares equal (pos 5)) ∷ TRUE ∷ []

-- the states that match a node; there is no state 7
abbrev pub matched : Content → List Bool
matched n = map (matches (reading seven) n) (0 ∷ 1 ∷ 2 ∷ 3 ∷ 4 ∷ 5 ∷ 6 ∷ 7 ∷ [])

abbrev pub five : Option (List ℕ)
five = some (53 ∷ [])

abbrev pub four : Option (List ℕ)
four = some (52 ∷ [])

pub nodes : map matched (
    -- no text and no child; the text 5; the text 4
    empty ∷ holding five childless ∷ holding four childless ∷
    -- an attribute 5 and an element 5; an attribute 5; an element 4
    holding none (and_child (and_child childless 32769 five) 2 five) ∷
    holding none (and_child childless 32769 five) ∷
    holding none (and_child childless 2 four) ∷
    -- an element 5 first, then another with another label; the other way round
    holding none (and_child (and_child childless 2 five) 3 four) ∷
    holding none (and_child (and_child childless 3 four) 2 five) ∷
    -- an element 5 inside another: no child of this node
    holding none (tree childless 3 none (and_child childless 2 five)) ∷ [])
    ≡ (false ∷ false ∷ false ∷ false ∷ true ∷ false ∷ true ∷ false ∷ []) ∷
    (false ∷ false ∷ false ∷ false ∷ false ∷ true ∷ true ∷ false ∷ []) ∷
    (false ∷ false ∷ false ∷ false ∷ true ∷ false ∷ true ∷ false ∷ []) ∷
    (true ∷ true ∷ true ∷ true ∷ true ∷ false ∷ true ∷ false ∷ []) ∷
    (false ∷ false ∷ true ∷ false ∷ true ∷ false ∷ true ∷ false ∷ []) ∷
    (false ∷ false ∷ false ∷ true ∷ true ∷ false ∷ true ∷ false ∷ []) ∷
    (false ∷ true ∷ false ∷ true ∷ true ∷ false ∷ true ∷ false ∷ []) ∷
    (false ∷ true ∷ false ∷ true ∷ true ∷ false ∷ true ∷ false ∷ []) ∷
    (false ∷ false ∷ false ∷ true ∷ true ∷ false ∷ true ∷ false ∷ []) ∷ []
unfolding matches some_child settle fits pick text_value whole_number some_digits digits_from strip_start
    strip_before strip_end
nodes = refl

-- "-2147483648 is a value": it matches = -2147483648, < -2147483647 and ≤ -2147483648, and not ≠, > or ≥ of those
pub lowest : map (matches (reading (LEAF (compares equal (negsuc 2147483647)) ∷ LEAF (compares below (negsuc 2147483646)) ∷
    LEAF (compares at_most (negsuc 2147483647)) ∷
    LEAF (compares differs (negsuc 2147483647)) ∷ LEAF (compares above (negsuc 2147483647)) ∷ LEAF (compares at_least (negsuc 2147483646)) ∷
    LEAF (compares equal (pos 2147483648)) ∷ []))
    (holding (some (45 ∷ long ++ 56 ∷ [])) childless)) (0 ∷ 1 ∷ 2 ∷ 3 ∷ 4 ∷ 5 ∷ 6 ∷ [])
    ≡ true ∷ true ∷ true ∷ false ∷ false ∷ false ∷ false ∷ []
unfolding matches settle pick text_value whole_number some_digits digits_from strip_start strip_before strip_end
lowest = refl

-- a value is the node's own, and its child's the child's, as the book reads their texts: here a text's value is its
-- number of bytes
pub as_read : map (λ (j : ℕ). matches (record { states = LEAF (compares equal (pos 2)) ∷ STEP 2 0 ∷ []; reads = λ s. number (pos (length s)) })
    (holding (some (53 ∷ 53 ∷ [])) (and_child childless 2 four)) j) (0 ∷ 1 ∷ [])
    ++ map (λ (j : ℕ). matches (record { states = LEAF (compares equal (pos 2)) ∷ STEP 2 0 ∷ []; reads = λ s. number (pos (length s)) })
    (holding none (and_child childless 2 (some (97 ∷ 97 ∷ [])))) j) (0 ∷ 1 ∷ [])
    ≡ true ∷ false ∷ false ∷ true ∷ []
unfolding matches some_child settle fits pick
as_read = refl

-- ── "a filter accepts a message if its state 0 matches the root" ──
-- the book's two filters have their state 0 at 0 and at 2; "bit k is the filter at place k in the contents"
pub filters : map (filters_where kinds) ((λ k. true) ∷ (λ k. eqb k 0) ∷ (λ k. eqb k 2) ∷ (λ k. eqb k 1) ∷ [])
    ≡ 3 ∷ 1 ∷ 2 ∷ 0 ∷ []
unfolding filters_where flags filter_count states_before body_size
filters = refl

-- TRUE, and a NOT that a child 32,772 makes fail
pub accepted : map (accepted_filters kinds) (empty ∷ holding none (and_child childless 32772 none) ∷ []) ≡ 3 ∷ 1 ∷ []
unfolding accepted_filters filters_where flags matches some_child settle fits pick states_of states_of_first state_at
    relation_of signed4 up_to filter_count body_start body_size states_before
accepted = refl

-- a text whose first byte is 5
abbrev pub is_five : Option (List ℕ) → Bool
is_five none = false
is_five (some []) = false
is_five (some (x ∷ s)) = eqb x 53

-- ── the rule read as laws: a child whose label fits and of which m holds, first or last ──
pub children_by : map (λ (f : Forest). map (child_by (λ n s. eqb s 7 && is_five n.text) f 2) (7 ∷ 8 ∷ [])) (
    childless ∷ and_child childless 2 five ∷ and_child childless 2 four ∷ and_child childless 3 five ∷
    and_child (and_child childless 2 five) 3 four ∷ and_child (and_child childless 3 four) 2 five ∷ [])
    ≡ (false ∷ false ∷ []) ∷ (true ∷ false ∷ []) ∷ (false ∷ false ∷ []) ∷ (false ∷ false ∷ []) ∷ (true ∷ false ∷ []) ∷
    (true ∷ false ∷ []) ∷ []
unfolding fits pick
children_by = refl
