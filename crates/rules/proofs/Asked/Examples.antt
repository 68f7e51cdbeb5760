-- What messages ask by the match rule, proved by computation. Section "Questions and the memory".
use Rattle.std.specs.Prelude.{◌≡◌, refl, Bool, true, false, List, [], ◌∷◌, ◌++◌, map, ℕ, pos, negsuc, length, replicate, take}
use Rattle.std.proofs.Math.Option.{Option, none, some}
use Rattle.lists.specs.Choice.{pick}
use Rattle.lists.specs.Below.{up_to, flags}
use Rattle.lists.specs.Checks.{first_of}
use Rattle.lists.specs.Parts.{part}
use Rattle.lists.specs.Same.{same_list}
use Rattle.rules.specs.Bytes.{signed4}
use Rattle.rules.specs.State.{compares, State, TRUE, LEAF, AND, OR, NOT, STEP, equal, below, fits}
use Rattle.rules.specs.Book.{
  filter_count,
  body_start,
  body_size,
  states_before,
  relation_of,
  state_at,
  states_of_first,
  states_of,
}
use Rattle.rules.proofs.Book.Examples.{kinds}
use Rattle.rules.specs.DayFile.{message_count, message_start, message_length, message_body}
use Rattle.rules.proofs.DayFile.Examples.{two, entry}
use Rattle.rules.specs.Value.{
  strip_start,
  strip_before,
  strip_end,
  digits_from,
  some_digits,
  whole_number,
  text_value,
  out_of_range,
}
use Rattle.rules.proofs.Value.Examples.{long}
use Rattle.rules.specs.Tree.{Forest, childless, tree, Content, Node}
use Rattle.rules.proofs.Match.Examples.{reading}
use Rattle.rules.specs.Match.{settle, some_child, matches, filters_where, accepted_filters}
use Rattle.rules.specs.Message.{
  Outcome,
  first_event,
  start_refusal,
  text_refusal,
  end_refusal,
  last_refusal,
  events,
  message,
}
use Rattle.rules.proofs.Message.Examples.{begins, says, ends, all, mark, child}
use Rattle.rules.specs.Sets.{test_each, set_of, Question}
use Rattle.rules.proofs.Memory.Examples.{asks}
use Rattle.rules.proofs.Pass.Examples.{book, day}
use Rattle.rules.specs.Asked.{
  read_tree,
  message_row,
  tree_rows,
  nodes_to,
  day_nodes,
  is_asked,
  question_of,
  right_answer,
  message_questions,
  questions_to,
  day_questions,
  same_question,
  is_among,
  without,
  different,
  first_different,
  not_kept,
}

-- ── the tree and the nodes that closed, in order ──
-- element 1 with attribute 32,769 that says 6, element 2 that says 7, and an empty element 2
abbrev pub body : List ℕ
body = all (begins 1 ∷ begins 32769 ∷ says (54 ∷ []) ∷ ends 32769 ∷ begins 2 ∷ says (55 ∷ []) ∷ ends 2 ∷ child ∷
    ends 1 ∷ [])

abbrev pub inside : Forest
inside = tree (tree (tree childless 32769 (some (54 ∷ [])) childless) 2 (some (55 ∷ [])) childless) 2 none childless

abbrev pub node : ℕ → Option (List ℕ) → Forest → Node
node x t f = record { label = x; content = record { text = t; children = f } }

abbrev pub closed : List Node
closed = node 32769 (some (54 ∷ [])) childless ∷ node 2 (some (55 ∷ [])) childless ∷ node 2 none childless ∷
    node 1 none inside ∷ []

abbrev pub outcome : ℕ → ℕ → Content → List Node → Outcome Content (List Node)
outcome e p root ns = record { refusal = e; place = p; root = root; state = ns }

unfoldable pub tree_of : List ℕ → Outcome Content (List Node)
unfolding read_tree message events first_event start_refusal text_refusal end_refusal last_refusal first_of pick text_value
    whole_number some_digits digits_from strip_start strip_before strip_end
tree_of s = read_tree (reading []) s

-- 27, as the book reads texts: to this one every text is out of range
pub barred : (read_tree (record { states = []; reads = λ s. out_of_range }) (all (begins 1 ∷ says [] ∷ ends 1 ∷ []))).refusal ≡ 27
unfolding tree_of
barred = refl

-- a message read; one whose text follows an attribute; one refused after two ends, whose two nodes stay
pub trees : map tree_of (body ∷ all (begins 1 ∷ mark ∷ says (55 ∷ []) ∷ ends 1 ∷ []) ∷ [])
    ≡ outcome 0 0 (record { text = none; children = tree childless 1 none inside }) closed ∷
    outcome 0 0 (record {
      text = none;
      children = tree childless 1 (some (55 ∷
          [])) (tree childless 32769 none childless);
    })
    (node 32769 none childless ∷ node 1 (some (55 ∷ [])) (tree childless 32769 none childless) ∷ []) ∷ []
unfolding tree_of
trees = refl

pub stay : (tree_of (take 21 body ++ 0 ∷ [])).state ≡ take 2 closed
unfolding tree_of
stay = refl

-- "-2147483648 is a value": a message with this text and LEAF = and < on its top element
pub lowest : map (matches (reading (STEP 1 2 ∷ STEP 1 3 ∷ LEAF (compares equal (negsuc 2147483647)) ∷ LEAF (compares below (negsuc 2147483646)) ∷ []))
    (tree_of (all (begins 1 ∷ says (45 ∷ long ++ 56 ∷ []) ∷ ends 1 ∷ []))).root) (0 ∷ 1 ∷ 2 ∷ 3 ∷ [])
    ≡ true ∷ true ∷ false ∷ false ∷ []
unfolding tree_of matches some_child settle fits
lowest = refl

-- ── the rows of the messages: "refusal, place, filters" ──
-- three messages: element 1 read, one refused by 21 at place 3, one that is empty
abbrev pub three : List ℕ
three = two 3 ++ (entry 26 6 ++ (entry 32 4 ++ (entry 36 0 ++ (begins 1 ++ (ends 1 ++ (begins 1 ++ 0 ∷ []))))))

unfoldable pub rows_to : ℕ → List ℕ
unfolding tree_of accepted_filters filters_where flags matches some_child settle fits states_of states_of_first
    state_at relation_of signed4 up_to filter_count body_start body_size states_before message_body part message_start
    message_length
rows_to k = tree_rows kinds three k

pub rows : map rows_to (0 ∷ 1 ∷ 2 ∷ 3 ∷ []) ++ message_row kinds (begins 1 ++ ends 1) ∷ []
    ≡ [] ∷ (0 ∷ 0 ∷ 3 ∷ []) ∷ (0 ∷ 0 ∷ 3 ∷ 21 ∷ 3 ∷ 0 ∷ []) ∷ (0 ∷ 0 ∷ 3 ∷ 21 ∷ 3 ∷ 0 ∷ 29 ∷ 0 ∷ 0 ∷ []) ∷ (0 ∷ 0 ∷
    3 ∷ []) ∷ []
unfolding rows_to
rows = refl

-- ── the nodes and the questions of a day file ──
-- messages: the body above, and an element 2
abbrev pub both : List ℕ
both = two 2 ++ (entry 18 30 ++ (entry 48 6 ++ (body ++ child)))

pub nodes : map (nodes_to (reading []) both) (0 ∷ 1 ∷ 2 ∷ []) ++ day_nodes (reading []) both ∷ []
    ≡ [] ∷ closed ∷ (closed ++ node 2 none childless ∷ []) ∷ (closed ++ node 2 none childless ∷ []) ∷ []
unfolding tree_of nodes_to message_body part message_start message_length message_count
nodes = refl

-- "the set of LEAF and STEP states that match the closing node": no other kind is asked
pub kinds_asked : map (λ (m : Bool). map (λ (s : State). is_asked s m) (TRUE ∷ LEAF (compares equal (pos 5)) ∷ AND 1 1 ∷ OR 1 1 ∷
    NOT 1 ∷ STEP 0 0 ∷ [])) (false ∷ true ∷ [])
    ≡ (false ∷ false ∷ false ∷ false ∷ false ∷ false ∷ []) ∷ (false ∷ true ∷ false ∷ false ∷ false ∷ true ∷ []) ∷ []
kinds_asked = refl

-- STEP 2→1, AND 2 3, LEAF = 7, TRUE, STEP 1→0, STEP 0→3
abbrev pub six : List State
six = STEP 2 1 ∷ AND 2 3 ∷ LEAF (compares equal (pos 7)) ∷ TRUE ∷ STEP 1 0 ∷ STEP 0 3 ∷ []

-- 2 that says 7 asks the LEAF; 1 asks STEP 2→1, since that child matches, and STEP 0→3; the others ask nothing
abbrev pub questions : List Question
questions = asks 0 32769 ∷ asks 4 2 ∷ asks 0 2 ∷ asks 33 1 ∷ []

pub asked : map (question_of (reading six)) closed ≡ questions
unfolding question_of set_of test_each matches some_child settle fits pick text_value whole_number some_digits
    digits_from strip_start strip_before strip_end
asked = refl

-- "the set of STEP states that this child makes match on its parent"
pub right : map (right_answer (reading six)) closed
    ≡ replicate 8 0 ∷ (33 ∷ replicate 7 0) ∷ (32 ∷ replicate 7 0) ∷ (48 ∷ replicate 7 0) ∷ []
unfolding right_answer set_of test_each matches some_child settle fits pick text_value whole_number some_digits
    digits_from strip_start strip_before strip_end
right = refl

unfoldable pub questions_up_to : ℕ → List Question
unfolding tree_of questions_to message_questions question_of set_of test_each matches some_child settle fits
    message_body part message_start message_length
questions_up_to k = questions_to (reading six) both k

-- in the order asked; those of a message refused later are among them
pub day_asks : map questions_up_to (0 ∷ 1 ∷ 2 ∷ []) ++ message_questions (reading six) (take 21 body ++ 0 ∷ []) ∷ []
    ≡ [] ∷ questions ∷ (questions ++ asks 0 2 ∷ []) ∷ take 2 questions ∷ []
unfolding questions_up_to
day_asks = refl

-- by the states of a book: of two messages with element 1 alone, the second refused after it
pub book_asks : day_questions kinds three ≡ asks 0 1 ∷ []
unfolding day_questions questions_up_to rows_to message_count
book_asks = refl

-- ── "the first C different questions of the day file are kept, in order of first asking" ──
abbrev pub p : Question
p = asks 1 2

abbrev pub q : Question
q = asks 1 3

abbrev pub r : Question
r = record { states = replicate 7 0 ++ 1 ∷ []; label = 2 }

-- the same where set and label are
pub same : map (same_question p) (p ∷ q ∷ r ∷ asks 0 2 ∷ []) ≡ true ∷ false ∷ false ∷ false ∷ []
unfolding same_list
same = refl

pub among : map (is_among p) ([] ∷ (q ∷ r ∷ []) ∷ (p ∷ q ∷ []) ∷ (q ∷ p ∷ []) ∷ []) ≡ false ∷ false ∷ true ∷ true ∷ []
unfolding is_among same_list
among = refl

abbrev pub six_asked : List Question
six_asked = p ∷ q ∷ p ∷ r ∷ q ∷ p ∷ []

unfoldable pub first_ones : ℕ → List Question
unfolding not_kept is_among first_different different without same_list
first_ones C = first_different C six_asked

pub taken_out : without p six_asked ∷ without q six_asked ∷ different six_asked ∷ []
    ≡ (q ∷ r ∷ q ∷ []) ∷ (p ∷ p ∷ r ∷ p ∷ []) ∷ (p ∷ q ∷ r ∷ []) ∷ []
unfolding first_ones
taken_out = refl

pub first_different_lem : map first_ones (0 ∷ 1 ∷ 2 ∷ 3 ∷ 4 ∷ [])
    ≡ [] ∷ (p ∷ []) ∷ (p ∷ q ∷ []) ∷ (p ∷ q ∷ r ∷ []) ∷ (p ∷ q ∷ r ∷ []) ∷ []
unfolding first_ones
first_different_lem = refl

-- "not among the first C different ones asked earlier"; and of p, q, p where q was asked before them
pub anew : map (λ (C : ℕ). not_kept C [] six_asked) (0 ∷ 1 ∷ 2 ∷ 3 ∷ 4 ∷ []) ++ map (λ (C : ℕ). not_kept C (q ∷ []) (p ∷
    q ∷ p ∷ [])) (0 ∷ 1 ∷ 2 ∷ [])
    ≡ 6 ∷ 4 ∷ 3 ∷ 3 ∷ 3 ∷ 3 ∷ 2 ∷ 1 ∷ []
unfolding first_ones
anew = refl

-- ── a day by its trees ──
-- the rows, the count asked, and for 64, 0, 2 and 5 slots the counts worked out anew and filled
unfoldable pub by_tree : List ℕ → List ℕ → List ℕ
unfolding rows_to questions_up_to first_ones day_questions message_count
by_tree b d =
    let qs : List Question = day_questions b d in
    let counts : ℕ → List ℕ = λ C. not_kept C [] qs ∷ length (first_different C qs) ∷ [] in
    tree_rows b d (message_count d) ++ length qs ∷ (counts 64 ++ counts 0 ++ counts 2 ++ counts 5)

-- three messages that the pass is made over in Pass/Examples: the same rows, and two of five questions asked again
pub day_by_tree : by_tree book day
    ≡ 0 ∷ 0 ∷ 1 ∷ 21 ∷ 6 ∷ 0 ∷ 0 ∷ 0 ∷ 1 ∷ 5 ∷ 3 ∷ 3 ∷ 5 ∷ 0 ∷ 3 ∷ 2 ∷ 3 ∷ 3 ∷ []
unfolding by_tree
day_by_tree = refl
