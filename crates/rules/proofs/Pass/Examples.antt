-- The pass from filled slots, proved by computation. Section "Questions and the memory".
use Rattle.std.specs.Prelude.{◌≡◌, refl, List, [], ◌∷◌, ◌++◌, map, ℕ, ◌+◌, ◌*◌, pos, replicate}
use Rattle.lists.specs.Choice.{pick}
use Rattle.lists.specs.Below.{up_to, flags}
use Rattle.lists.specs.Checks.{first_of}
use Rattle.lists.specs.Parts.{part, patch}
use Rattle.lists.specs.Same.{same_list}
use Rattle.rules.specs.Bytes.{signed4}
use Rattle.rules.specs.State.{fits}
use Rattle.rules.specs.Book.{
  filter_count,
  body_start,
  body_size,
  states_before,
  relation_of,
  state_at,
  states_of_first,
  states_of,
  meaning_of,
}
use Rattle.rules.proofs.Book.Examples as B
use Rattle.rules.specs.DayFile.{message_start, message_length, message_body}
use Rattle.rules.proofs.DayFile.Examples.{two, entry}
use Rattle.rules.specs.Value.{Value, number, out_of_range, strip_start, strip_before, strip_end, digits_from, some_digits, whole_number, text_value}
use Rattle.rules.specs.Match.{settle, filters_where}
use Rattle.rules.specs.Message.{
  Outcome,
  first_event,
  start_refusal,
  text_refusal,
  end_refusal,
  last_refusal,
  events,
  message,
}
use Rattle.rules.proofs.Message.Examples.{begins, says, ends, all, mark, child}
use Rattle.rules.specs.Sets.{test_each, set_of, either, leaves_of, completed, work_out}
use Rattle.rules.specs.Memory.{
  slot_width,
  key_of,
  slot_question,
  slot_answer,
  slots_lent,
  first_slot,
  keep,
  reply_by,
  ask,
  ask_all,
}
use Rattle.rules.proofs.Memory.Examples.{numbers, asks, kept}
use Rattle.rules.specs.Pass.{Carried, pass_message, answer_row, Passed, pass_to, pass_questions}

-- ids 7 and 8: STEP 1→1, STEP 2→2, LEAF = 7; then NOT 1, STEP 1→2, TRUE
abbrev pub book : List ℕ
book = two 2 ++ (B.entry 7 18 3 ++ (B.entry 8 42 3 ++ (B.row 5 0 1 1 0 ++ (B.row 5 0 2 2 0 ++ (B.row 1 1 0 7 0 ++
    (B.row 4 0 1 0 0 ++ (B.row 5 0 1 2 0 ++ B.row 0 0 0 0 0)))))))

abbrev pub carried : ℕ → ℕ → ℕ → List ℕ → Carried
carried asked anew filled m = record { asked = asked; kept = kept m anew filled }

abbrev pub slot : ℕ → ℕ → ℕ → List ℕ
slot w x a = key_of (asks w x) ++ numbers a

unfoldable pub passed : List ℕ → Carried → Outcome (List ℕ) Carried
unfolding pass_message message events first_event start_refusal text_refusal end_refusal last_refusal first_of pick text_value
    whole_number some_digits digits_from strip_start strip_before strip_end ask reply_by first_slot keep slots_lent
    slot_question slot_answer part patch same_list work_out set_of test_each either leaves_of completed settle fits states_of
    states_of_first state_at relation_of signed4 up_to filter_count body_start body_size states_before
passed body c = pass_message (meaning_of book) body c

abbrev pub outcome : ℕ → ℕ → ℕ → Carried → Outcome (List ℕ) Carried
outcome e p w c = record { refusal = e; place = p; root = numbers w; state = c }

-- element 1 that holds an element 2 that says 7
abbrev pub late : List ℕ
late = all (begins 1 ∷ begins 2 ∷ says (55 ∷ []) ∷ ends 2 ∷ ends 1 ∷ [])

-- "an accepted end event asks one question": 2 asks LEAF = 7 (state 2) and makes state 1 match on its parent; 1 asks
-- state 1 and makes
-- states 0 and 4 match on the root. The counts rise from what they were; the second slot is filled, and there is no
-- third
pub asks_each_end : passed late (carried 40 30 1 (slot 0 9 9 ++ replicate (slot_width + 1) 6))
    ≡ outcome 0 0 17 (carried 42 32 2 (slot 0 9 9 ++ (slot 4 2 2 ++ 6 ∷ [])))
unfolding passed
asks_each_end = refl

-- "wrong answers and all", and "as it stands": a slot says that 2 makes states 3, 5 and 6 match, of which the book has
-- no state 6; "the next question is asked of the set so made"
pub wrong_answer_joined : passed late (carried 0 0 1 (slot 4 2 104 ++ replicate slot_width 6))
    ≡ outcome 0 0 16 (carried 2 1 2 (slot 4 2 104 ++ slot 104 1 16))
unfolding passed
wrong_answer_joined = refl

-- the questions alone: what the slot says is asked next, and with no slot filled what is right
pub questions_asked : map (λ (filled : ℕ). pass_questions (meaning_of book)
    (kept (slot 4 2 104 ++ replicate slot_width 6) 0 filled) late) (1 ∷ 0 ∷ [])
    ≡ (asks 4 2 ∷ asks 104 1 ∷ []) ∷ (asks 4 2 ∷ asks 2 1 ∷ []) ∷ []
unfolding passed pass_questions ask_all
questions_asked = refl

-- "the answer given is joined to the parent's set as it stands": an attribute's answer stays when a text comes, and
-- two children's answers
-- are joined; a refused event asks none, and the question asked before it stays
pub joined : map (λ (s : List ℕ). (passed s (carried 0 0 1 (slot 0 32769 8 ++ replicate (2 * slot_width) 6))).state.kept.memory) (
    all (begins 1 ∷ mark ∷ says (55 ∷ []) ∷ ends 1 ∷ []) ∷
    all (begins 1 ∷ mark ∷ begins 2 ∷ says (55 ∷ []) ∷ ends 2 ∷ ends 1 ∷ []) ∷
    all (begins 1 ∷ begins 2 ∷ says (55 ∷ []) ∷ ends 2 ∷ ends 2 ∷ []) ∷ [])
    ≡ (slot 0 32769 8 ++ (slot 12 1 16 ++ replicate slot_width 6)) ∷
    (slot 0 32769 8 ++ (slot 4 2 2 ++ slot 10 1 17)) ∷
    (slot 0 32769 8 ++ (slot 4 2 2 ++ replicate slot_width 6)) ∷ []
unfolding passed
joined = refl

-- 27 and a text's LEAF states, as the book reads texts: to one every text is out of range, to the other its value is 7
pub as_read : map (λ (v : Value). (pass_message (record { states = states_of book; reads = λ s. v }) (all (begins 1 ∷
    begins 2 ∷ says [] ∷ ends 2 ∷ ends 1 ∷ [])) (carried 0 0 0 [])).refusal) (out_of_range ∷ number (pos 7) ∷ []) ++
    (pass_message (record { states = states_of book; reads = λ s. number (pos 7) }) (all (begins 1 ∷ begins 2 ∷ says [] ∷
    ends 2 ∷ ends 1 ∷ [])) (carried 0 0 0 [])).root
    ≡ 27 ∷ 0 ∷ numbers 17
unfolding passed
as_read = refl

-- ── "three 64-bit numbers for each message: refusal, place, filters" ──
-- completed at the root, NOT 1 fails where state 4 is; a refused message has no filter
pub rows : map (answer_row book) (outcome 0 0 17 (carried 0 0 0 []) ∷ outcome 0 0 0 (carried 0 0 0 []) ∷
    outcome 0 0 1 (carried 0 0 0 []) ∷ outcome 24 9 17 (carried 0 0 0 []) ∷ [])
    ≡ (0 ∷ 0 ∷ 1 ∷ []) ∷ (0 ∷ 0 ∷ 2 ∷ []) ∷ (0 ∷ 0 ∷ 3 ∷ []) ∷ (24 ∷ 9 ∷ 0 ∷ []) ∷ []
unfolding passed answer_row filters_where flags
rows = refl

-- ── the messages one after the other, with what each leaves ──
abbrev pub day : List ℕ
day = two 3 ++ (entry 26 15 ++ (entry 41 7 ++ (entry 48 15 ++ (late ++ (child ++ 0 ∷ late)))))

abbrev pub after : List ℕ → Carried → Passed
after rs c = record { rows = rs; carried = c }

pub messages : map (pass_to book day (carried 5 6 0 (replicate (2 * slot_width) 6))) (0 ∷ 1 ∷ 2 ∷ 3 ∷ [])
    ≡ after [] (carried 5 6 0 (replicate (2 * slot_width) 6)) ∷
    after (0 ∷ 0 ∷ 1 ∷ []) (carried 7 8 2 (slot 4 2 2 ++ slot 2 1 17)) ∷
    after (0 ∷ 0 ∷ 1 ∷ 21 ∷ 6 ∷ 0 ∷ []) (carried 8 9 2 (slot 4 2 2 ++ slot 2 1 17)) ∷
    after (0 ∷ 0 ∷ 1 ∷ 21 ∷ 6 ∷ 0 ∷ 0 ∷ 0 ∷ 1 ∷ []) (carried 10 9 2 (slot 4 2 2 ++ slot 2 1 17)) ∷ []
unfolding passed pass_to answer_row filters_where flags message_body message_start message_length
messages = refl
