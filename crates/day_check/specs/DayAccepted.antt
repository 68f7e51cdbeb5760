-- What an accepted day file gives: section "Refusal numbers", 8 to 10, read the other way round.
use Rattle.std.specs.Prelude.{◌≡◌, refl, Bool, false, ◌||◌, not, List, ℕ, ◌+◌, ◌-◌, ◌<◌, ◌≤◌, eqb, ltb, length, take, drop}
use Rattle.std.proofs.Common.{arith, ltb-false, eqb-true}
use Rattle.lists.specs.Below.{some_below}
use Rattle.lists.specs.Checks.{row_fails}
use Rattle.lists.specs.Choice.Laws.{neither, not_not}
use Rattle.lists.specs.Parts.Laws.{part_lent, part_long}
use Rattle.lists.specs.Below.Laws.{some_below_each, sum_rises}
use Rattle.lists.specs.Checks.Laws.{none_fails, row_passes}
use Rattle.rules.specs.Bytes.{entry_at}
use Rattle.rules.specs.DayFile.{most_messages, most_day_bytes, message_count, message_start, message_length, bytes_before, message_place, message_body, day_off, messages_astray, day_checks, day_refusal}

-- what the check asks of an entry
abbrev pub stray_at : List ℕ → ℕ → Bool
stray_at d k = not (eqb (message_start d k) (message_place d k))

-- ── check by check ──
pub room : (d : List ℕ) → day_off d ≡ false → (2 ≤ length d) × (entry_at (message_count d) ≤ length d) × (length d ≤ most_day_bytes)
unfolding day_off
room d e =
    let p = neither (ltb (length d) 2 || ltb (length d) (entry_at (message_count d))) _ e in
    let q = neither (ltb (length d) 2) _ p.0 in
    (ltb-false _ _ q.0, ltb-false _ _ q.1, ltb-false _ _ p.1)

pub places : (d : List ℕ) → messages_astray d ≡ false → ((k : ℕ) → k < message_count d → message_start d k ≡ message_place d k) × (length d ≡ message_place d (message_count d))
unfolding messages_astray
places d e =
    let p = neither (some_below (stray_at d) (message_count d)) _ e in
    ((λ k h. eqb-true _ _ (not_not _ (some_below_each (stray_at d) _ k p.0 h))), eqb-true _ _ (not_not _ p.1))

-- ── the bytes before a message ──
pub bytes_rise : (d : List ℕ) (k n : ℕ) → k < n → bytes_before d k + message_length d k ≤ bytes_before d n
unfolding bytes_before
bytes_rise d = sum_rises (bytes_before d) (message_length d) (λ k. refl)

-- ── the whole ──
pub record DayAccepted (d : List ℕ) : Type 0 where
  pub few : message_count d ≤ most_messages
  pub table : entry_at (message_count d) ≤ length d
  pub long : length d ≤ most_day_bytes
  pub placed : (k : ℕ) → k < message_count d → message_start d k ≡ message_place d k
  pub whole : length d ≡ message_place d (message_count d)

pub accepted : (d : List ℕ) → day_refusal d ≡ 0 → DayAccepted d
unfolding day_refusal
accepted d e =
    let passes : (j : ℕ) → row_fails (day_checks d) j ≡ false = row_passes (day_checks d) (none_fails (day_checks d) refl e) in
    record {
      few = ltb-false _ _ (passes 9);
      table = (room d (passes 8)).1;
      long = (room d (passes 8)).2;
      placed = (places d (passes 10)).0;
      whole = (places d (passes 10)).1;
    }

-- the bytes of its count are there
pub day_two : (d : List ℕ) → day_refusal d ≡ 0 → 2 ≤ length d
day_two d h = let a : DayAccepted d = accepted d h in omega arith

-- ── message k: its entry, its part of the file, and how long that is ──
module _ (d : List ℕ) (k : ℕ) (ok : day_refusal d ≡ 0) (h : k < message_count d) where
  pub entry_inside : entry_at (k + 1) ≤ length d
  entry_inside = let a = accepted d ok in omega arith

  pub message_inside : {s n : ℕ} → s ≡ message_start d k → n ≡ message_length d k → s + n ≤ length d
  message_inside e f = let a = accepted d ok in omega (arith, a.placed k h, bytes_rise d k (message_count d) h)

  pub message_long : length (message_body d k) ≡ message_length d k
  unfolding message_body
  message_long = part_long d (message_start d k) (message_length d k) (let a = accepted d ok in omega (arith, a.placed k h, bytes_rise d k (message_count d) h))

-- the part as it is lent
pub message_is : (d : List ℕ) (k s n : ℕ) → s ≡ message_start d k → n ≡ message_length d k → take (s + n - s) (drop s d) ≡ message_body d k
unfolding message_body
message_is d k s n e f = rw (e, f) (part_lent d (message_start d k) (message_length d k))
