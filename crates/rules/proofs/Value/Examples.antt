-- Texts and their values, proved by computation. Section "Day file", **Value**; section "On both sides".
use Rattle.std.specs.Prelude.{◌≡◌, refl, true, false, List, [], ◌∷◌, ◌++◌, map, ℕ, pos, negsuc, replicate}
use Rattle.std.proofs.Math.Option.{none, some}
use Rattle.lists.specs.Choice.{pick}
use Rattle.rules.specs.Value.{
  Value,
  is_out,
  no_text,
  no_number,
  out_of_range,
  number,
  strip_start,
  strip_before,
  strip_end,
  digits_from,
  some_digits,
  whole_number,
  text_value,
  value_of,
}

-- a text and its value
abbrev pub Row : Type 0
Row = List ℕ × Value

unfoldable pub worth : List ℕ → Value
unfolding pick strip_start strip_before strip_end digits_from some_digits whole_number text_value
worth s = text_value s

-- each row's value is the one beside it
abbrev pub Worth : List Row → Type 0
Worth rows = map (λ (r : Row). worth r.0) rows ≡ map (λ (r : Row). r.1) rows

-- 2147483647 and the digits that come before its last, which is 55
abbrev pub long : List ℕ
long = 50 ∷ 49 ∷ 52 ∷ 55 ∷ 52 ∷ 56 ∷ 51 ∷ 54 ∷ 52 ∷ []

-- "an optional minus, then one or more digits, is a whole number; leading zeros are allowed and -0 is 0"
pub numbers : Worth (
    (48 ∷ [], number (pos 0)) ∷
    (55 ∷ [], number (pos 7)) ∷
    (57 ∷ [], number (pos 9)) ∷
    (49 ∷ 50 ∷ 51 ∷ [], number (pos 123)) ∷
    (57 ∷ 48 ∷ [], number (pos 90)) ∷
    (48 ∷ 48 ∷ 55 ∷ [], number (pos 7)) ∷
    (45 ∷ 48 ∷ [], number (pos 0)) ∷
    (45 ∷ 48 ∷ 48 ∷ [], number (pos 0)) ∷
    (45 ∷ 53 ∷ [], number (negsuc 4)) ∷
    (45 ∷ 48 ∷ 49 ∷ 50 ∷ [], number (negsuc 11)) ∷ [])
unfolding worth
numbers = refl

-- "anything else ("", "-", "+5", "- 5", "1.5") is no number"
pub no_numbers : Worth (
    ([], no_number) ∷
    (45 ∷ [], no_number) ∷
    (43 ∷ 53 ∷ [], no_number) ∷
    (45 ∷ 32 ∷ 53 ∷ [], no_number) ∷
    (49 ∷ 46 ∷ 53 ∷ [], no_number) ∷
    -- the bytes beside the digits 0 and 9, alone and behind a digit
    (47 ∷ [], no_number) ∷
    (58 ∷ [], no_number) ∷
    (49 ∷ 47 ∷ [], no_number) ∷
    (49 ∷ 58 ∷ [], no_number) ∷
    -- two minus signs, a minus at the end, the bytes beside the minus
    (45 ∷ 45 ∷ 53 ∷ [], no_number) ∷
    (53 ∷ 45 ∷ [], no_number) ∷
    (44 ∷ 53 ∷ [], no_number) ∷
    (46 ∷ 53 ∷ [], no_number) ∷
    -- a number too long to be a value, and a letter behind it
    (replicate 12 57 ++ 97 ∷ [], no_number) ∷
    (45 ∷ replicate 12 57 ++ 97 ∷ [], no_number) ∷ [])
unfolding worth
no_numbers = refl

-- "strip spaces, tabs, CR and LF at both ends", and nothing else nowhere else
pub stripped : Worth (
    (32 ∷ 55 ∷ 32 ∷ [], number (pos 7)) ∷
    (9 ∷ 55 ∷ 9 ∷ [], number (pos 7)) ∷
    (13 ∷ 55 ∷ 13 ∷ [], number (pos 7)) ∷
    (10 ∷ 55 ∷ 10 ∷ [], number (pos 7)) ∷
    (32 ∷ 9 ∷ 13 ∷ 10 ∷ 45 ∷ 55 ∷ 10 ∷ 13 ∷ 9 ∷ 32 ∷ [], number (negsuc 6)) ∷
    (32 ∷ 55 ∷ [], number (pos 7)) ∷
    (55 ∷ 32 ∷ [], number (pos 7)) ∷
    (32 ∷ [], no_number) ∷
    (32 ∷ 32 ∷ [], no_number) ∷
    (32 ∷ 45 ∷ 32 ∷ [], no_number) ∷
    (49 ∷ 32 ∷ 50 ∷ [], no_number) ∷
    (49 ∷ 9 ∷ 50 ∷ [], no_number) ∷
    (49 ∷ 13 ∷ 50 ∷ [], no_number) ∷
    (49 ∷ 10 ∷ 50 ∷ [], no_number) ∷
    -- 8, 11, 12, 14, 31, 33 and 160 are no spaces
    (8 ∷ 55 ∷ [], no_number) ∷
    (55 ∷ 11 ∷ [], no_number) ∷
    (12 ∷ 55 ∷ [], no_number) ∷
    (55 ∷ 14 ∷ [], no_number) ∷
    (31 ∷ 55 ∷ [], no_number) ∷
    (55 ∷ 33 ∷ [], no_number) ∷
    (160 ∷ 55 ∷ [], no_number) ∷
    (0 ∷ 55 ∷ 0 ∷ [], no_number) ∷ [])
unfolding worth
stripped = refl

-- "it must lie from -2,147,483,648 to 2,147,483,647"; leading zeros and spaces alter nothing
pub range_ends_lem : Worth (
    (long ++ 55 ∷ [], number (pos 2147483647)) ∷
    (long ++ 56 ∷ [], out_of_range) ∷
    (45 ∷ long ++ 55 ∷ [], number (negsuc 2147483646)) ∷
    (45 ∷ long ++ 56 ∷ [], number (negsuc 2147483647)) ∷
    (45 ∷ long ++ 57 ∷ [], out_of_range) ∷
    (32 ∷ 48 ∷ 48 ∷ long ++ 55 ∷ [], number (pos 2147483647)) ∷
    (48 ∷ 48 ∷ long ++ 56 ∷ 32 ∷ [], out_of_range) ∷
    (45 ∷ 48 ∷ long ++ 56 ∷ 32 ∷ [], number (negsuc 2147483647)) ∷
    (replicate 12 57, out_of_range) ∷
    (45 ∷ replicate 12 57, out_of_range) ∷ [])
unfolding worth
range_ends_lem = refl

-- a node's value: no text gives none, and an empty one is no number
pub of_nodes : map (value_of text_value) (none ∷ some [] ∷ some (55 ∷ []) ∷ []) ≡ no_text ∷ no_number ∷ number (pos 7) ∷ []
unfolding worth
of_nodes = refl

-- as its book reads it: here every text is out of range, and no text is none
pub read_so : map (value_of (λ s. out_of_range)) (none ∷ some (55 ∷ []) ∷ []) ≡ no_text ∷ out_of_range ∷ []
read_so = refl

-- of the values only one is out of range
pub values_out : map is_out (no_text ∷ no_number ∷ out_of_range ∷ number (pos 0) ∷ []) ≡ false ∷ false ∷ true ∷ false ∷ []
values_out = refl
