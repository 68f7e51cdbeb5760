-- Refusals 8 to 10, a law for each way out. `n` is the number of messages that was read.
use Rattle.std.specs.Prelude.{◌≡◌, refl, Bool, true, false, ◌||◌, not, List, [], ◌∷◌, ℕ, ◌+◌, ◌^◌, ◌<◌, ◌≤◌, eqb, ltb, length}
use Rattle.std.proofs.Math.Path.{sym}
use Rattle.std.proofs.Common.{◌∙◌, arith, add-one, lt-ltb, le-ltb}
use Rattle.lists.specs.Checks.{Check, first_of}
use Rattle.lists.specs.Below.Laid.{Laid, astray, laid_none, laid_next, laid_hit, laid_all}
use Rattle.lists.specs.Checks.Laws.{first_fails, first_passes, first_end}
use Rattle.rules.specs.Bytes.{entry_at}
use Rattle.rules.specs.DayFile.{most_messages, most_day_bytes, message_count, message_start, message_length, bytes_before, day_off, messages_astray, day_refusal}
use Rattle.day_check.specs.DayAccepted.{room}

-- ── 8 ──
pub off_bare : (d : List ℕ) → length d < 2 → true ≡ day_off d
unfolding day_off
off_bare d h = simp (lt-ltb (length d) 2 h)

pub off_is : (d : List ℕ) (n e : ℕ) → 2 ≤ length d → n ≡ message_count d → e ≡ entry_at n → ltb (length d) e || ltb most_day_bytes (length d) ≡ day_off d
unfolding day_off
off_is d n e h count end = simp (le-ltb (length d) 2 h, end, count)

pub ruleset off_laws = (off_bare, off_is)

-- ── 10 ──
abbrev pub Placed : List ℕ → ℕ → ℕ → ℕ → Type 0
Placed d n place k = Laid (message_start d) (bytes_before d) (entry_at n) n place k

placed_is : (d : List ℕ) (n : ℕ) → n ≡ message_count d → astray (message_start d) (bytes_before d) (entry_at n) n (length d) ≡ messages_astray d
unfolding messages_astray
placed_is d n count = rw count

module _ (d : List ℕ) {n : ℕ} (count : n ≡ message_count d) where
  pub placed_none : {place : ℕ} → place ≡ entry_at n → Placed d n place 0
  unfolding bytes_before
  placed_none e = rw e (laid_none refl)

  pub placed_next : {place k s l : ℕ} → Placed d n place k → k < n → s ≡ message_start d k → s ≡ place → l ≡ message_length d k → l < 2 ^ 32 → Placed d n (place + l) (k + 1)
  unfolding bytes_before
  placed_next {k = k} g h es ep el m = laid_next g h es ep m (rw (add-one k) (omega arith))

  pub placed_hit : {place k s : ℕ} → Placed d n place k → k < n → s ≡ message_start d k → (s ≡ place → ⊥) → true ≡ messages_astray d
  placed_hit g h es f = laid_hit g h es (length d) f ∙ placed_is d n count

  pub placed_all : {place k : ℕ} → Placed d n place k → n ≤ k → not (eqb (length d) place) ≡ messages_astray d
  placed_all g h = laid_all (length d) g h ∙ placed_is d n count

pub ruleset placed_laws = (placed_hit, placed_all)

-- ── the three in their order ──
abbrev from10 : List ℕ → List Check
from10 d = record { number = 10; fails = messages_astray d } ∷ []

abbrev from9 : List ℕ → List Check
from9 d = record { number = 9; fails = ltb most_messages (message_count d) } ∷ from10 d

module _ (d : List ℕ) where
  pub refused_8 : {t : Bool} → t ≡ day_off d → t ≡ true → 8 ≡ day_refusal d
  unfolding day_refusal
  refused_8 e h = sym (first_fails 8 _ (from9 d) (sym e ∙ h))

  module _ {off : Bool} (off_is : off ≡ day_off d) (off_not : off ≡ false) where
    rest8 : day_refusal d ≡ first_of (from9 d)
    unfolding day_refusal
    rest8 = first_passes 8 _ (from9 d) (sym off_is ∙ off_not)

    -- what a check that passed gives the next
    pub bare : 2 ≤ length d
    bare = (room d (sym off_is ∙ off_not)).0

    pub roomy : entry_at (message_count d) ≤ length d
    roomy = (room d (sym off_is ∙ off_not)).1

    pub refused_9 : {n : ℕ} → n ≡ message_count d → most_messages < n → 9 ≡ day_refusal d
    refused_9 {n} e h = sym (rest8 ∙ first_fails 9 _ (from10 d) (lt-ltb most_messages (message_count d) (omega arith)))

    module _ {n : ℕ} (count : n ≡ message_count d) (few : n ≤ most_messages) where
      rest9 : day_refusal d ≡ first_of (from10 d)
      rest9 = rest8 ∙ first_passes 9 _ (from10 d) (le-ltb most_messages (message_count d) (omega arith))

      pub refused_10 : {t : Bool} → t ≡ messages_astray d → t ≡ true → 10 ≡ day_refusal d
      refused_10 e h = sym (rest9 ∙ first_fails 10 _ [] (sym e ∙ h))

      pub accepts : {t : Bool} → t ≡ messages_astray d → t ≡ false → 0 ≡ day_refusal d
      accepts e h = sym (rest9 ∙ first_passes 10 _ [] (sym e ∙ h) ∙ first_end)

pub ruleset day_laws = (bare, roomy, refused_8, refused_9, refused_10, accepts)
