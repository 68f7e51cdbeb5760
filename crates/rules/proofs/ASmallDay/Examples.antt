-- The paper's own examples, proved of the definitions by computation. Sections "A small day, whole" and "On both sides".
use Rattle.std.specs.Prelude.{◌≡◌, refl, List, [], ◌∷◌, ◌++◌, map, ℕ, ◌+◌, ◌*◌, length, take, replicate}
use Rattle.rules.specs.Book.{book_refusal, meaning_of, body_among, body_of}
use Rattle.rules.specs.DayFile.{message_count}
use Rattle.rules.specs.Sets.{no_states}
use Rattle.rules.specs.Memory.{slot_width, key_of, slot_question}
use Rattle.rules.specs.Pass.{pass_message}
use Rattle.rules.specs.Run.{workspace_width, Lent}
use Rattle.rules.proofs.Asked.Examples.{by_tree}
use Rattle.rules.proofs.Run.Examples.{noisy, ran, shown}
use Rattle.rules.specs.ASmallDay.{book, day, range_ends, edge_book, edges}

-- ── the run ──
-- an example: a book, a day file, how many slots are lent, and what is shown
pub record Example : Type 0 where
  pub book : List ℕ
  pub day : List ℕ
  pub slots : ℕ
  pub expected : List ℕ

-- lent with noise in it, and a little more than is needed
abbrev pub lending : Example → Lent
lending e = noisy e.book e.day (slot_width * e.slots + 3) (3 * message_count e.day + 2) (workspace_width + 2)

-- what stays as it was: two answers, two numbers of the workspace behind two that are 0, the slots that are free and three numbers
abbrev pub untouched : ℕ → List ℕ
untouched free = 9 ∷ 9 ∷ 0 ∷ 0 ∷ 5 ∷ 5 ∷ replicate (slot_width * free + 3) 6

-- the rows of the five messages: filters 10 and 30, 10 and 30, 20 and 30, 20, and refusal 24 at place 9
abbrev pub five : List ℕ
five = 0 ∷ 0 ∷ 5 ∷ 0 ∷ 0 ∷ 5 ∷ 0 ∷ 0 ∷ 6 ∷ 0 ∷ 0 ∷ 2 ∷ 24 ∷ 9 ∷ 0 ∷ []

abbrev pub examples : List Example
examples =
    record { book = book; day = day; slots = 64; expected = 0 ∷ 17 ∷ 8 ∷ 8 ∷ (five ++ untouched 56) } ∷
    record { book = book; day = day; slots = 0; expected = 0 ∷ 17 ∷ 17 ∷ 0 ∷ (five ++ untouched 0) } ∷
    record { book = book; day = day; slots = 2; expected = 0 ∷ 17 ∷ 14 ∷ 2 ∷ (five ++ untouched 0) } ∷
    record { book = book; day = day; slots = 5; expected = 0 ∷ 17 ∷ 9 ∷ 5 ∷ (five ++ untouched 0) } ∷
    record { book = book; day = range_ends; slots = 64; expected = 0 ∷ 2 ∷ 2 ∷ 2 ∷ 0 ∷ 0 ∷ 2 ∷ 27 ∷ 3 ∷ 0 ∷ 0 ∷ 0 ∷ 2 ∷ 27 ∷ 3 ∷ 0 ∷ untouched 62 } ∷
    record { book = edge_book; day = edges; slots = 64; expected = 0 ∷ 7 ∷ 6 ∷ 6 ∷ 0 ∷ 0 ∷ 4 ∷ 0 ∷ 0 ∷ 3 ∷ 0 ∷ 0 ∷ 0 ∷ 0 ∷ 0 ∷ 0 ∷ untouched 58 } ∷ []

unfoldable pub run_shown : Example → List ℕ
unfolding ran
run_shown e = shown (ran (lending e))

-- the five messages, the three other slot counts, the four range ends, and four messages beside them
pub worked : map run_shown examples ≡ map (λ e. e.expected) examples
unfolding run_shown
worked = refl

-- the five messages by their trees, with the counts for 64, 0, 2 and 5 slots
pub worked_on_trees : by_tree book day ≡ five ++ 17 ∷ 8 ∷ 8 ∷ 17 ∷ 0 ∷ 14 ∷ 2 ∷ 9 ∷ 5 ∷ []
unfolding by_tree
worked_on_trees = refl

-- ── a wrong slot whose answer is eight full numbers ──
abbrev pub full : ℕ
full = 18446744073709551615

-- the slot says of an empty element 2 that it makes all 512 match
abbrev pub wrong_slot : List ℕ
wrong_slot = key_of (record { states = no_states; label = 2 }) ++ replicate 8 full

-- element 1 that holds an empty element 2, read from that slot: the next question asks exactly the eight full numbers
pub wrong_answer_asked : slot_question
    (pass_message (meaning_of book) (1 ∷ 1 ∷ 0 ∷ 1 ∷ 2 ∷ 0 ∷ 3 ∷ 2 ∷ 0 ∷ 3 ∷ 1 ∷ 0 ∷ [])
    (record { asked = 0; kept = record { memory = wrong_slot ++ replicate slot_width 7; anew = 0; filled = 1 } })).state.kept.memory 1
    ≡ key_of (record { states = replicate 8 full; label = 1 })
unfolding run_shown
wrong_answer_asked = refl

-- ── one filter's body ──
-- ids 10, 20 and 30 stand at places 26, 58 and 106; there is no id 11; a book cut short is refused, so it has none
pub bodies_found : map (λ i. length (body_of book i)) (10 ∷ 20 ∷ 30 ∷ 11 ∷ []) ++ map (λ i. length (body_of (take 153 book) i)) (10 ∷ []) ≡ 32 ∷ 48 ∷ 48 ∷ 0 ∷ 0 ∷ []
unfolding run_shown body_of body_among book_refusal
bodies_found = refl

-- ids are unsigned: 1 and 4,294,967,295 rise, each with a body of one TRUE state
pub ids_unsigned : book_refusal (
    2 ∷ 0 ∷ 1 ∷ 0 ∷ 0 ∷ 0 ∷ 18 ∷ 0 ∷ 1 ∷ 0 ∷ 255 ∷ 255 ∷ 255 ∷ 255 ∷ 26 ∷ 0 ∷ 1 ∷ 0 ∷ replicate 16 0)
    ≡ 0
unfolding run_shown book_refusal
ids_unsigned = refl
