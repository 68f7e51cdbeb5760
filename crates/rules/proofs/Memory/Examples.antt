-- The slots and the inner call, proved by computation; the cap on C, of any memory of that length. Section "Questions
-- and the memory".
use Rattle.std.specs.Prelude.{◌≡◌, refl, List, [], ◌∷◌, ◌++◌, map, ℕ, ◌+◌, ◌*◌, ◌-◌, ◌/◌, min, length, replicate}
use Rattle.std.proofs.Common.{ap}
use Rattle.std.proofs.Math.Option.{none, some}
use Rattle.lists.specs.Choice.{pick}
use Rattle.lists.specs.Parts.{part, patch}
use Rattle.lists.specs.Below.{up_to}
use Rattle.lists.specs.Same.{same_list}
use Rattle.rules.specs.State.{State, TRUE, STEP, fits}
use Rattle.rules.specs.Match.{settle}
use Rattle.rules.specs.Sets.{Question, test_each, set_of, completed, work_out}
use Rattle.rules.specs.Memory.{
  slot_width,
  most_slots,
  key_of,
  question_in,
  slot_question,
  slot_answer,
  slots_written,
  slots_lent,
  Kept,
  first_slot,
  Reply,
  keep,
  reply_by,
  ask,
}

-- "C is the lent count div 17"
pub slots : map (λ (n : ℕ). slots_lent (replicate n 7)) (
    0 ∷ (slot_width - 1) ∷ slot_width ∷ (slot_width + 1) ∷ (2 * slot_width - 1) ∷ (2 * slot_width) ∷ []) ≡ 0 ∷ 0 ∷ 1 ∷ 1 ∷ 1 ∷ 2 ∷ []
unfolding slots_lent
slots = refl

-- "at most 4,096": any memory of 4,095 slots and 16 numbers, of 4,096 slots, of 4,097 slots
pub below_cap : (m : List ℕ) → length m ≡ slot_width * 4096 - 1 → slots_lent m ≡ 4095
unfolding slots_lent
below_cap m p = ap (λ n. min (n / slot_width) most_slots) p

pub at_cap : (m : List ℕ) → length m ≡ slot_width * 4096 → slots_lent m ≡ 4096
unfolding slots_lent
at_cap m p = ap (λ n. min (n / slot_width) most_slots) p

pub past_cap : (m : List ℕ) → length m ≡ slot_width * 4097 → slots_lent m ≡ 4096
unfolding slots_lent
past_cap m p = ap (λ n. min (n / slot_width) most_slots) p

-- ── "a slot is 17: asked set (8), label (1), answer (8)" ──
-- n numbers from k on
abbrev pub from : ℕ → ℕ → List ℕ
from k n = up_to (λ i. k + i) n

pub key_numbers : key_of (record { states = from 1 8; label = 9 }) ≡ from 1 9
unfolding up_to
key_numbers = refl

pub key_read : question_in (from 1 9) ≡ record { states = from 1 8; label = 9 }
unfolding up_to
key_read = refl

pub layout : map (slot_question (from 0 51)) (0 ∷ 1 ∷ 2 ∷ []) ++ map (slot_answer (from 0 51)) (0 ∷ 1 ∷ 2 ∷ [])
    ≡ from 0 9 ∷ from 17 9 ∷ from 34 9 ∷ from 9 8 ∷ from 26 8 ∷ from 43 8 ∷ []
unfolding slot_question slot_answer part up_to
layout = refl

-- STEP 2→1, TRUE: a child with label 2 makes state 0 match on its parent
abbrev pub states : List State
states = STEP 2 1 ∷ TRUE ∷ []

abbrev pub asks : ℕ → ℕ → Question
asks w x = record { states = w ∷ replicate 7 0; label = x }

abbrev pub numbers : ℕ → List ℕ
numbers w = w ∷ replicate 7 0

pub slots_written_lem : slots_written states (asks 0 2 ∷ asks 1 3 ∷ [])
    ≡ key_of (asks 0 2) ++ (numbers 1 ++ (key_of (asks 1 3) ++ numbers 0))
unfolding slots_written work_out set_of test_each completed settle fits pick
slots_written_lem = refl

-- ── "the first such slot's answer" ──
-- four slots: another label, another set, the question with one answer, the question with another
abbrev pub held : List ℕ
held = key_of (asks 0 3) ++ (replicate 8 20 ++ (key_of (asks 1 2) ++ (replicate 8 21 ++
    (key_of (asks 0 2) ++ (replicate 8 22 ++ (key_of (asks 0 2) ++ replicate 8 23))))))

pub first_of : map (λ (n : ℕ). first_slot held n (asks 0 2)) (0 ∷ 1 ∷ 2 ∷ 3 ∷ 4 ∷ [])
    ≡ none ∷ none ∷ none ∷ some 2 ∷ some 2 ∷ []
unfolding first_slot slot_question part same_list pick
first_of = refl

-- "the question is kept with its answer where a slot is free": one of two slots filled, then both, then the one of
-- one and a half
abbrev pub kept : List ℕ → ℕ → ℕ → Kept
kept m anew filled = record { memory = m; anew = anew; filled = filled }

abbrev pub sevens : ℕ → ℕ → List ℕ
sevens slots more = replicate (slot_width * slots + more) 7

pub keeping : map (keep (asks 6 2) (numbers 8)) (kept (sevens 2 3) 5 1 ∷ kept (sevens 2 3) 5 2 ∷
    kept (sevens 1 16) 5 1 ∷ kept (sevens 1 0) 0 0 ∷ [])
    ≡ kept (sevens 1 0 ++ (key_of (asks 6 2) ++ (numbers 8 ++ replicate 3 7))) 6 2 ∷
    kept (sevens 2 3) 6 2 ∷
    kept (sevens 1 16) 6 1 ∷
    kept (key_of (asks 6 2) ++ numbers 8) 1 1 ∷ []
unfolding keep slots_lent patch pick
keeping = refl

-- "for any filled slots, right or wrong": a wrong answer is given and all stays; asked with two slots filled, the
-- answer is worked out and
-- kept in the third
abbrev pub reply : List ℕ → Kept → Reply
reply a k = record { answer = a; kept = k }

pub answered : map (ask states (asks 0 2)) (kept held 5 4 ∷ kept held 5 2 ∷ kept [] 5 0 ∷ [])
    ≡ reply (replicate 8 22) (kept held 5 4) ∷
    reply (numbers 1) (kept (part held 0 (2 * slot_width) ++ (key_of (asks 0 2) ++ (numbers 1 ++ part held (3 * slot_width) slot_width))) 6 3) ∷
    reply (numbers 1) (kept [] 6 0) ∷ []
unfolding ask reply_by first_slot keep slots_lent slot_question slot_answer part patch same_list work_out set_of test_each
    completed settle fits pick
answered = refl
