-- The laws that the code of the slots is proved by: one for each way through it.
use Rattle.std.specs.Prelude.{◌≡◌, List, ◌++◌, ℕ, ◌+◌, ◌-◌, ◌*◌, length, take, drop}
use Rattle.std.proofs.Common.{◌∙◌, arith, length-append}
use Rattle.lists.specs.Parts.Laws.{part_lent, part_back}
use Rattle.rules.specs.Sets.{set_width}
use Rattle.rules.specs.Memory.{question_width, slot_width, slot_question, slot_answer}
use Rattle.memory_slots.specs.Slots.{with_slot}

-- the slot put back into the memory
pub kept_slot : (m l q ans : List ℕ) (i : ℕ) → l ≡ q ++ ans → length q ≡ question_width → length ans ≡ set_width
    → take (slot_width * i) m ++ (l ++ drop (slot_width * i + slot_width - slot_width * i) (drop (slot_width * i) m)) ≡ with_slot m i q ans
kept_slot m l q ans i e h k = part_back m l (q ++ ans) (slot_width * i) slot_width e (simp length-append (omega arith))

pub asked : (m : List ℕ) (i : ℕ) → take (slot_width * i + question_width - slot_width * i) (drop (slot_width * i) m) ≡ slot_question m i
unfolding slot_question
asked m i = part_lent m (slot_width * i) question_width

pub recalled : (m l : List ℕ) (i : ℕ)
    → l ≡ take (slot_width * i + question_width + set_width - (slot_width * i + question_width)) (drop (slot_width * i + question_width) m) → l ≡ slot_answer m i
unfolding slot_answer
recalled m l i e = e ∙ part_lent m (slot_width * i + question_width) set_width
