-- A memory that has a slot, and one with a slot kept. Then laws: of the count of slots lent, of a slot that is kept and the
-- slots before it, of the first slot that asks.
use Rattle.std.specs.Prelude.{◌≡◌, refl, ℕ, zero, suc, ◌+◌, ◌*◌, ◌/◌, ◌≤◌, ◌<◌, length, take}
use Rattle.std.proofs.Common.{sym, ◌∙◌, arith, length-append, drop_at, length-take-le}
use Rattle.std.proofs.Math.Path.{ap}
use mathlib.Core.List.{List, ◌++◌, append_assoc}
use Rattle.std.proofs.Math.Option.{Option, none, some}
use Rattle.std.proofs.Math.Seq.{take_at}
use Rattle.lists.specs.Choice.{pick}
use Rattle.lists.specs.Parts.{part, patch}
use Rattle.lists.specs.Parts.Laws.{patch_long, patch_below}
use Rattle.lists.specs.Same.{same_list}
use Rattle.rules.specs.Sets.{set_width, Question}
use Rattle.rules.specs.Memory.{question_width, slot_width, most_slots, key_of, slot_question, slots_lent, first_slot}

-- slot i lies in the memory
abbrev pub HasSlot : List ℕ → ℕ → Type 0
HasSlot m i = slot_width * i + slot_width ≤ length m

-- the memory with a question and its answer in slot i
abbrev pub with_slot : List ℕ → ℕ → List ℕ → List ℕ → List ℕ
with_slot m i q a = patch m (slot_width * i) (q ++ a)

-- ── the count of slots lent ──
pub lent_less : (m : List ℕ) (n : ℕ) → n ≡ length m / slot_width → n < most_slots → n ≡ slots_lent m
unfolding slots_lent
lent_less m n e h = omega arith

pub lent_most : (m : List ℕ) (n : ℕ) → n ≡ length m / slot_width → most_slots ≤ n → most_slots ≡ slots_lent m
unfolding slots_lent
lent_most m n e h = omega arith

-- slots that are lent are at most 4,096, and lie in the memory
pub lent_few : (m : List ℕ) (n : ℕ) → n ≤ slots_lent m → n ≤ most_slots
unfolding slots_lent
lent_few m n h = omega arith

pub lent_has : (m : List ℕ) (n : ℕ) → n < slots_lent m → HasSlot m n
unfolding slots_lent
lent_has m n h = omega arith

-- ── a slot that is kept ──
module _ (m q a : List ℕ) (n : ℕ) (eq : length q ≡ question_width) (ea : length a ≡ set_width) (fits : HasSlot m n) where
  slot_long : length (q ++ a) ≡ slot_width
  slot_long = simp length-append (omega arith)

  pub kept_long : length (with_slot m n q a) ≡ length m
  kept_long = patch_long m (slot_width * n) (q ++ a) (omega (arith, slot_long))

  pub kept_asks : slot_question (with_slot m n q a) n ≡ q
  unfolding slot_question part patch
  kept_asks =
      ap (take question_width) (drop_at (take (slot_width * n) m) _ (slot_width * n) (length-take-le (slot_width * n) m (omega arith)) ∙ append_assoc q a _)
      ∙ take_at q _ question_width eq

  pub kept_before : (i : ℕ) → i < n → slot_question (with_slot m n q a) i ≡ slot_question m i
  unfolding slot_question
  kept_before i h = patch_below m (slot_width * n) (q ++ a) (omega (arith, slot_long)) (slot_width * i) question_width (omega arith)

-- ── the first slot that asks a question ──
unfoldable pub or_else : Option ℕ → Option ℕ → Option ℕ
or_else (some i) f = some i
or_else none f = f

pub or_none : (f : Option ℕ) → or_else f none ≡ f
unfolding or_else
or_none (some i) = refl
or_none none = refl

pub first_none : (m : List ℕ) (q : Question) → first_slot m 0 q ≡ none
unfolding first_slot
first_none m q = refl

-- one slot more
pub first_more : (m : List ℕ) (n : ℕ) (q : Question)
    → first_slot m (suc n) q ≡ or_else (first_slot m n q) (pick (same_list (slot_question m n) (key_of q)) (some n) none)
unfolding first_slot or_else
first_more m n q = go (first_slot m n q) (pick (same_list (slot_question m n) (key_of q)) (some n) none)
  where
    go : (f g : Option ℕ) → elim f as (λ x. Option ℕ) [ some i ↦ some i | none ↦ g ] ≡ or_else f g
    go (some i) g = refl
    go none g = refl

-- memories whose first n slots ask the same
pub first_agree : (m m' : List ℕ) (n : ℕ) (q : Question) → ((i : ℕ) → i < n → slot_question m' i ≡ slot_question m i) → first_slot m' n q ≡ first_slot m n q
first_agree m m' zero q g = first_none m' q ∙ sym (first_none m q)
first_agree m m' (suc n) q g = first_more m' n q ∙ rw (first_agree m m' n q (λ i h. g i (omega arith)), g n (omega arith)) (sym (first_more m n q))
