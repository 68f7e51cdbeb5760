-- Day files at both sides of each refusal, proved by computation; for the two great limits, laws over any day file of
-- that size.
-- Sections "Day file" and "Refusal numbers", 8 to 10.
use Rattle.std.specs.Prelude.{◌≡◌, refl, true, false, ◌||◌, List, [], ◌∷◌, ◌++◌, map, ℕ, ◌+◌, ◌*◌, ◌/◌, ◌%◌, ltb, length, replicate}
use Rattle.std.proofs.Common.{◌∙◌, ap}
use Rattle.lists.specs.Parts.{part}
use Rattle.lists.specs.Below.{some_below}
use Rattle.lists.specs.Checks.{first_of, row_fails}
use Rattle.rules.specs.DayFile.{
  message_count,
  message_start,
  message_length,
  bytes_before,
  message_place,
  message_body,
  day_off,
  messages_astray,
  day_checks,
  day_refusal,
}

abbrev pub two : ℕ → List ℕ
two n = n % 256 ∷ n / 256 ∷ []

-- "start (4), length (4)"
abbrev pub entry : ℕ → ℕ → List ℕ
entry at n = two (at % 65536) ++ (two (at / 65536) ++ (two (n % 65536) ++ two (n / 65536)))

abbrev pub Row : Type 0
Row = List ℕ × ℕ

unfoldable pub refusal_of : List ℕ → ℕ
unfolding day_refusal first_of some_below day_off messages_astray message_count message_start message_length bytes_before
refusal_of d = day_refusal d

-- each day file is refused by the number beside it; 0 where it is not
abbrev pub Refused : List Row → Type 0
Refused rows = map (λ (r : Row). refusal_of r.0) rows ≡ map (λ (r : Row). r.1) rows

-- "8: day file under 2 bytes, shorter than 2+8N"; with N = 0 it is 2 bytes; "a body may have length 0"
pub short : Refused (
    ([], 8) ∷ (0 ∷ [], 8) ∷ (1 ∷ [], 8) ∷ (two 0, 0) ∷ (two 1, 8) ∷
    (two 1 ++ replicate 7 0, 8) ∷ (two 1 ++ replicate 8 0, 10) ∷ (two 1 ++ entry 10 0, 0) ∷
    (two 2 ++ replicate 15 0, 8) ∷ (two 2 ++ replicate 16 0, 10) ∷ (two 2 ++ (entry 18 0 ++ entry 18 0), 0) ∷
    (two 256 ++ replicate 40 0, 8) ∷ [])
unfolding refusal_of
short = refl

-- "10: message bodies not where they must be": "in order without gaps, from 2+8N to the end"
pub places : Refused (
    (two 1 ++ (entry 10 3 ++ 9 ∷ 9 ∷ 9 ∷ []), 0) ∷
    (two 1 ++ (entry 9 3 ++ 9 ∷ 9 ∷ 9 ∷ []), 10) ∷ (two 1 ++ (entry 11 3 ++ 9 ∷ 9 ∷ 9 ∷ []), 10) ∷
    (two 1 ++ (entry 266 3 ++ 9 ∷ 9 ∷ 9 ∷ []), 10) ∷ (two 1 ++ (entry 65546 3 ++ 9 ∷ 9 ∷ 9 ∷ []), 10) ∷
    (two 1 ++ (entry 10 2 ++ 9 ∷ 9 ∷ 9 ∷ []), 10) ∷ (two 1 ++ (entry 10 4 ++ 9 ∷ 9 ∷ 9 ∷ []), 10) ∷
    (two 2 ++ (entry 18 2 ++ (entry 20 1 ++ 9 ∷ 9 ∷ 9 ∷ [])), 0) ∷
    (two 2 ++ (entry 18 2 ++ (entry 19 1 ++ 9 ∷ 9 ∷ 9 ∷ [])), 10) ∷
    (two 2 ++ (entry 18 2 ++ (entry 21 1 ++ 9 ∷ 9 ∷ 9 ∷ [])), 10) ∷
    (two 2 ++ (entry 17 2 ++ (entry 20 1 ++ 9 ∷ 9 ∷ 9 ∷ [])), 10) ∷
    (two 2 ++ (entry 18 0 ++ (entry 18 3 ++ 9 ∷ 9 ∷ 9 ∷ [])), 0) ∷
    (0 ∷ 0 ∷ 0 ∷ [], 10) ∷ [])
unfolding refusal_of
places = refl

-- "over 1,048,576": any file of that length and no message, and of one byte more
pub longest : (d : List ℕ) → message_count d ≡ 0 → length d ≡ 1048576 → day_off d ≡ false
unfolding day_off
longest d p q =
    ap (λ n. ltb (length d) 2 || ltb (length d) (2 + 8 * n) || ltb 1048576 (length d)) p ∙
    ap (λ n. ltb n 2 || ltb n 2 || ltb 1048576 n) q

pub too_long : (d : List ℕ) → message_count d ≡ 0 → length d ≡ 1048577 → day_off d ≡ true
unfolding day_off
too_long d p q =
    ap (λ n. ltb (length d) 2 || ltb (length d) (2 + 8 * n) || ltb 1048576 (length d)) p ∙
    ap (λ n. ltb n 2 || ltb n 2 || ltb 1048576 n) q

-- "9: N over 4,096": any file of so many messages
pub most : (d : List ℕ) → message_count d ≡ 4096 → row_fails (day_checks d) 9 ≡ false
most d p = ap (ltb 4096) p

pub too_many : (d : List ℕ) → message_count d ≡ 4097 → row_fails (day_checks d) 9 ≡ true
too_many d p = ap (ltb 4096) p

-- "checked in this order": 8, 9 and 10 are the rows, each by its condition
pub in_order : (d : List ℕ) → map (row_fails (day_checks d)) (8 ∷ 9 ∷ 10 ∷ [])
    ≡ day_off d ∷ ltb 4096 (message_count d) ∷ messages_astray d ∷ []
in_order d = refl

-- the entries, with another number in each byte: N, then starts and lengths of entries 0 and 1
abbrev pub strange : List ℕ
strange = 2 ∷ 1 ∷ 3 ∷ 4 ∷ 5 ∷ 6 ∷ 7 ∷ 8 ∷ 9 ∷ 10 ∷ 11 ∷ 12 ∷ 13 ∷ 14 ∷ 15 ∷ 16 ∷ 17 ∷ 18 ∷ []

pub entries_read : message_count strange ∷ (map (message_start strange) (0 ∷ 1 ∷ []) ++ map (message_length strange) (0 ∷
    1 ∷ []))
    ≡ 258 ∷ 100992003 ∷ 235736075 ∷ 168364039 ∷ 303108111 ∷ []
unfolding message_count message_start message_length
entries_read = refl

-- "each message is read from its own part of the day file": two bytes, none, one
abbrev pub three : List ℕ
three = two 3 ++ (entry 26 2 ++ (entry 28 0 ++ (entry 28 1 ++ 7 ∷ 8 ∷ 9 ∷ [])))

pub bodies_are : map (message_body three) (0 ∷ 1 ∷ 2 ∷ []) ≡ (7 ∷ 8 ∷ []) ∷ [] ∷ (9 ∷ []) ∷ []
unfolding message_body part message_start message_length
bodies_are = refl

pub bodies_at : map (bytes_before three) (0 ∷ 1 ∷ 2 ∷ 3 ∷ []) ++ map (message_place three) (0 ∷ 1 ∷ 2 ∷ 3 ∷ [])
    ≡ 0 ∷ 2 ∷ 2 ∷ 3 ∷ 26 ∷ 28 ∷ 28 ∷ 29 ∷ []
unfolding message_count message_length bytes_before
bodies_at = refl
