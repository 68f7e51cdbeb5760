-- The index over the filled slots, 12,288 numbers: 8,192 heads by a hash of the question, and then for each slot the one before it in its chain.
-- Only the first slot that asks a question is entered, so the first hit of a chain is the first slot of all that asks it.
use Rattle.std.specs.Prelude.{◌≡◌, Option as Answer, None, Some, Bool, true, false, List, ℕ, zero, suc, ◌+◌, ◌*◌, ◌≤◌, length, get_or, set, replicate}
use Rattle.std.proofs.Math.Option.{Option, none, some}
use Rattle.lists.specs.Choice.{pick}
use Rattle.rules.specs.Memory.{slot_width, most_slots, question_in, slot_question, first_slot}
use Rattle.memory_hash.specs.Hash.{heads, hash_of}

-- its length: the heads, and then a number a slot
abbrev pub index_room : ℕ
index_room = heads + most_slots

-- what an answer of `find` means
unfoldable pub meant : Answer ℕ → Option ℕ
meant (Some i) = some i
meant None = none

-- the first of n slots that asks nine numbers
abbrev pub first_by : List ℕ → ℕ → List ℕ → Option ℕ
first_by m n w = first_slot m n (question_in w)

abbrev pub is_none : Option ℕ → Bool
is_none (some i) = false
is_none none = true

-- no slot before slot i asks its question
unfoldable pub is_first : List ℕ → ℕ → Bool
is_first m i = is_none (first_by m i (slot_question m i))

-- the index when slot n becomes the head of the chain at h
unfoldable pub entered : List ℕ → ℕ → ℕ → List ℕ
entered x n h = set (set x (heads + n) (get_or x h 0)) h (n + 1)

-- the index of the first n slots, whatever they hold
unfoldable pub index_of : List ℕ → ℕ → List ℕ
index_of m zero = replicate index_room 0
index_of m (suc n) = pick (is_first m n) (entered (index_of m n) n (hash_of (slot_question m n))) (index_of m n)

-- x is the index of the first n slots of the memory m; its length and that the slots are lent stand here for arithmetic to find
pub record Indexed (x m : List ℕ) (n : ℕ) : Type 0 where
  pub long : length x ≡ index_room
  pub few : n ≤ most_slots
  pub fits : slot_width * n ≤ length m
  pub same : x ≡ index_of m n
