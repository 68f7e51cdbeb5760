-- Filter books at both sides of each refusal, and the states of a book, proved by computation. Sections "Filter book"
-- and "Refusal
-- numbers", 1 to 7.
use Rattle.std.specs.Prelude.{◌≡◌, refl, List, [], ◌∷◌, ◌++◌, map, ℕ, ◌*◌, ◌/◌, ◌%◌, pos, negsuc, take, drop, replicate}
use Rattle.lists.specs.Choice.{pick}
use Rattle.lists.specs.Parts.{part}
use Rattle.lists.specs.Below.{some_below, up_to}
use Rattle.lists.specs.Checks.{first_of}
use Rattle.rules.specs.Bytes.{signed4}
use Rattle.rules.specs.State.{
  equal,
  differs,
  below,
  at_most,
  above,
  at_least,
  TRUE,
  compares,
  LEAF,
  AND,
  OR,
  NOT,
  STEP,
}
use Rattle.rules.specs.Book.{
  filter_count,
  id_of,
  body_start,
  body_size,
  states_before,
  body_place,
  is_row,
  leads_well,
  book_short,
  ids_fall,
  bad_sizes,
  bodies_astray,
  bad_rows,
  bad_successors,
  book_refusal,
  relation_of,
  state_at,
  states_of_first,
  states_of,
  body_among,
  body_of,
  part_among,
  part_of,
}

-- ── books written out ──
abbrev pub two : ℕ → List ℕ
two n = n % 256 ∷ n / 256 ∷ []

abbrev pub four : ℕ → List ℕ
four n = two (n % 65536) ++ two (n / 65536)

-- "id (4), start of the body from the start of the book (2), number of states n (2)"
abbrev pub entry : ℕ → ℕ → ℕ → List ℕ
entry id at n = four id ++ (two at ++ two n)

-- a state's kind, byte 1, and the numbers in bytes 2-3, 4-5 and 6-7
abbrev pub row : ℕ → ℕ → ℕ → ℕ → ℕ → List ℕ
row kind one x y z = kind ∷ one ∷ (two x ++ (two y ++ two z))

-- n TRUE states
abbrev pub trues : ℕ → List ℕ
trues n = replicate (8 * n) 0

abbrev pub Row : Type 0
Row = List ℕ × ℕ

unfoldable pub refusal_of : List ℕ → ℕ
unfolding book_refusal first_of some_below pick filter_count id_of body_start body_size states_before is_row leads_well
    book_short ids_fall bad_sizes bodies_astray bad_rows bad_successors
refusal_of b = book_refusal b

-- each book is refused by the number beside it; 0 where it is not
abbrev pub Refused : List Row → Type 0
Refused rows = map (λ (r : Row). refusal_of r.0) rows ≡ map (λ (r : Row). r.1) rows

-- two filters of one state each, with ids i and j
abbrev pub pair : ℕ → ℕ → List ℕ
pair i j = two 2 ++ (entry i 18 1 ++ (entry j 26 1 ++ trues 2))

-- ── the table of refusals ──
-- "1: book under 2 bytes, or shorter than 2+8F"; "with F = 0 the book is 2 bytes"; "2: F over 64"
pub contents_short : Refused (
    ([], 1) ∷ (0 ∷ [], 1) ∷ (1 ∷ [], 1) ∷ (two 0, 0) ∷ (two 1, 1) ∷
    (two 1 ++ replicate 7 0, 1) ∷ (two 1 ++ replicate 8 0, 4) ∷
    (two 2 ++ replicate 15 0, 1) ∷ (two 2 ++ replicate 16 0, 3) ∷
    (two 64 ++ replicate 511 0, 1) ∷ (two 64 ++ replicate 512 0, 3) ∷
    (two 65 ++ replicate 519 0, 1) ∷ (two 65 ++ replicate 520 0, 2) ∷
    (two 256 ++ replicate 40 0, 1) ∷ [])
unfolding refusal_of
contents_short = refl

-- "3: ids do not rise strictly"
pub ids_rise : Refused (
    (pair 1 2, 0) ∷ (pair 2 2, 3) ∷ (pair 2 1, 3) ∷ (pair 0 1, 0) ∷ (pair 0 0, 3) ∷
    (pair 255 256, 0) ∷ (pair 256 255, 3) ∷ (pair 65535 65536, 0) ∷ (pair 65536 65535, 3) ∷
    (pair 16777215 16777216, 0) ∷ (pair 16777216 16777215, 3) ∷ (pair 2147483647 2147483648, 0) ∷
    (two 1 ++ (entry 0 10 1 ++ trues 1), 0) ∷
    (two 3 ++ (entry 1 26 1 ++ (entry 2 34 1 ++ (entry 3 42 1 ++ trues 3))), 0) ∷
    (two 3 ++ (entry 1 26 1 ++ (entry 2 34 1 ++ (entry 2 42 1 ++ trues 3))), 3) ∷
    (two 3 ++ (entry 2 26 1 ++ (entry 1 34 1 ++ (entry 3 42 1 ++ trues 3))), 3) ∷ [])
unfolding refusal_of
ids_rise = refl

-- "4: an n of 0, or over 512 states": 512 pass and want their body (5); "all together at most 512"
pub sizes : Refused (
    (two 1 ++ entry 7 10 0, 4) ∷
    (two 2 ++ (entry 7 18 0 ++ (entry 8 18 1 ++ trues 1)), 4) ∷
    (two 2 ++ (entry 7 18 1 ++ (entry 8 26 0 ++ trues 1)), 4) ∷
    (two 1 ++ (entry 7 10 1 ++ trues 1), 0) ∷
    (two 1 ++ entry 7 10 512, 5) ∷ (two 1 ++ entry 7 10 513, 4) ∷
    (two 2 ++ (entry 7 18 256 ++ entry 8 2066 256), 5) ∷
    (two 2 ++ (entry 7 18 256 ++ entry 8 2066 257), 4) ∷ [])
unfolding refusal_of
sizes = refl

-- "5: a body not where it must be, or the book does not end with the last"
pub places : Refused (
    (two 1 ++ (entry 7 9 1 ++ trues 1), 5) ∷ (two 1 ++ (entry 7 11 1 ++ trues 1), 5) ∷ (
      two 1 ++ (entry 7 266 1 ++
          trues 1),
      5,
    ) ∷
    (two 2 ++ (entry 7 18 2 ++ (entry 8 34 1 ++ trues 3)), 0) ∷
    (two 2 ++ (entry 7 18 2 ++ (entry 8 33 1 ++ trues 3)), 5) ∷
    (two 2 ++ (entry 7 18 2 ++ (entry 8 35 1 ++ trues 3)), 5) ∷
    (two 2 ++ (entry 7 17 2 ++ (entry 8 34 1 ++ trues 3)), 5) ∷
    (two 1 ++ (entry 7 10 2 ++ replicate 15 0), 5) ∷ (two 1 ++ (entry 7 10 2 ++ replicate 17 0), 5) ∷
    (two 1 ++ (entry 7 10 2 ++ trues 1), 5) ∷ (two 1 ++ (entry 7 10 2 ++ trues 3), 5) ∷
    (0 ∷ 0 ∷ 0 ∷ [], 5) ∷ [])
unfolding refusal_of
places = refl

-- "checked in this order": each book fails two rows of the table, and the lower is given
pub in_order : Refused (
    (two 65 ++ replicate 519 0, 1) ∷
    (two 65 ++ replicate 520 0, 2) ∷
    (two 2 ++ (entry 8 18 1 ++ (entry 7 26 0 ++ trues 1)), 3) ∷
    (two 1 ++ entry 7 11 0, 4) ∷
    (two 1 ++ (entry 7 11 1 ++ 9 ∷ 9 ∷ trues 1), 5) ∷
    (two 2 ++ (entry 7 18 1 ++ (entry 8 26 1 ++ (row 4 0 0 0 0 ++ row 6 0 0 0 0))), 6) ∷ [])
unfolding refusal_of
in_order = refl

-- ── the table of kinds ──
-- a row as state 1 of a body of four states, of which the others are TRUE
abbrev pub amid : List ℕ → List ℕ
amid r = two 1 ++ (entry 7 10 4 ++ (trues 1 ++ (r ++ trues 2)))

abbrev pub Rows : List Row → Type 0
Rows rows = map (λ (r : Row). refusal_of (amid r.0)) rows ≡ map (λ (r : Row). r.1) rows

-- byte 1, and the bytes 2 to 7, set to 1 one after the other
pub true_row : Rows (
    (row 0 0 0 0 0, 0) ∷ (row 0 1 0 0 0, 6) ∷ (row 0 0 1 0 0, 6) ∷ (row 0 0 256 0 0, 6) ∷ (row 0 0 0 1 0, 6) ∷
    (row 0 0 0 256 0, 6) ∷ (row 0 0 0 0 1, 6) ∷ (row 0 0 0 0 256, 6) ∷ [])
unfolding refusal_of
true_row = refl

-- "1 =, 2 ≠, 3 <, 4 ≤, 5 >, 6 ≥", bytes 2-3 0, any constant
pub leaf_row : Rows (
    (row 1 0 0 0 0, 6) ∷ (row 1 1 0 0 0, 0) ∷ (row 1 2 0 0 0, 0) ∷ (row 1 3 0 0 0, 0) ∷ (row 1 4 0 0 0, 0) ∷
    (row 1 5 0 0 0, 0) ∷
    (row 1 6 0 0 0, 0) ∷ (row 1 7 0 0 0, 6) ∷ (row 1 1 1 0 0, 6) ∷ (row 1 1 256 0 0, 6) ∷ (row 1 1 0 65535 65535, 0) ∷
    [])
unfolding refusal_of
leaf_row = refl

-- the rows of AND (kind 2) and OR (kind 3), of state 1 among four: "AND, OR and NOT lead only to higher-numbered
-- states";
-- "AND and OR may name the same successor twice"
abbrev pub joining : ℕ → List Row
joining kind =
    (row kind 0 2 3 0, 0) ∷ (row kind 0 3 2 0, 0) ∷ (row kind 0 2 2 0, 0) ∷ (row kind 0 3 3 0, 0) ∷
    (row kind 1 2 3 0, 6) ∷ (row kind 0 2 3 1, 6) ∷ (row kind 0 2 3 256, 6) ∷
    (row kind 0 0 3 0, 7) ∷ (row kind 0 1 3 0, 7) ∷ (row kind 0 4 3 0, 7) ∷ (row kind 0 258 3 0, 7) ∷
    (row kind 0 3 0 0, 7) ∷ (row kind 0 3 1 0, 7) ∷ (row kind 0 3 4 0, 7) ∷ (row kind 0 3 258 0, 7) ∷ []

pub and_row : Rows (joining 2)
unfolding refusal_of
and_row = refl

pub or_row : Rows (joining 3)
unfolding refusal_of
or_row = refl

pub not_row : Rows (
    (row 4 0 2 0 0, 0) ∷ (row 4 0 3 0 0, 0) ∷ (row 4 0 0 0 0, 7) ∷ (row 4 0 1 0 0, 7) ∷ (row 4 0 4 0 0, 7) ∷
    (row 4 0 258 0 0, 7) ∷
    (row 4 1 2 0 0, 6) ∷ (row 4 0 2 1 0, 6) ∷ (row 4 0 2 256 0, 6) ∷ (row 4 0 2 0 1, 6) ∷ (row 4 0 2 0 256, 6) ∷ [])
unfolding refusal_of
not_row = refl

-- "a STEP may lead to any state of its body, itself included"; any label
pub step_row : Rows (
    (row 5 0 1 0 0, 0) ∷ (row 5 0 1 1 0, 0) ∷ (row 5 0 1 2 0, 0) ∷ (row 5 0 1 3 0, 0) ∷ (row 5 0 1 4 0, 7) ∷
    (row 5 0 1 256 0, 7) ∷
    (row 5 0 0 1 0, 0) ∷ (row 5 0 32768 1 0, 0) ∷ (row 5 0 65535 1 0, 0) ∷
    (row 5 1 1 0 0, 6) ∷ (row 5 0 1 0 1, 6) ∷ (row 5 0 1 0 256, 6) ∷ [])
unfolding refusal_of
step_row = refl

-- no other kind
pub no_row : Rows ((row 6 0 0 0 0, 6) ∷ (row 7 0 0 0 0, 6) ∷ (row 255 0 0 0 0, 6) ∷ [])
unfolding refusal_of
no_row = refl

-- every state of every body is looked at, and "successors are numbered within the body": two filters of two states
abbrev pub twice : List ℕ → List ℕ
twice rows = two 2 ++ (entry 7 18 2 ++ (entry 8 34 2 ++ rows))

pub every_state : Refused (
    (twice (row 4 0 1 0 0 ++ (trues 1 ++ (row 4 0 1 0 0 ++ trues 1))), 0) ∷
    (twice (trues 3 ++ row 6 0 0 0 0), 6) ∷ (twice (trues 1 ++ (row 6 0 0 0 0 ++ trues 2)), 6) ∷
    (twice (trues 2 ++ (row 4 0 2 0 0 ++ trues 1)), 7) ∷ (twice (row 4 0 2 0 0 ++ trues 3), 7) ∷
    (twice (trues 2 ++ (row 5 0 1 2 0 ++ trues 1)), 7) ∷ (twice (row 5 0 1 3 0 ++ trues 3), 7) ∷
    (twice (trues 3 ++ row 5 0 1 1 0), 0) ∷ (twice (trues 3 ++ row 5 0 1 2 0), 7) ∷ [])
unfolding refusal_of
every_state = refl

-- ── what a book says ──
-- the contents, with another number in each byte: F, then ids, starts and sizes of entries 0 and 1
abbrev pub strange : List ℕ
strange = 2 ∷ 1 ∷ 3 ∷ 4 ∷ 5 ∷ 6 ∷ 7 ∷ 8 ∷ 9 ∷ 10 ∷ 11 ∷ 12 ∷ 13 ∷ 14 ∷ 15 ∷ 16 ∷ 17 ∷ 18 ∷ []

pub contents_read : filter_count strange ∷ (map (id_of strange) (0 ∷ 1 ∷ []) ++ map (body_start strange) (0 ∷ 1 ∷ []) ++
    map (body_size strange) (0 ∷ 1 ∷ []))
    ≡ 258 ∷ 100992003 ∷ 235736075 ∷ 2055 ∷ 4111 ∷ 2569 ∷ 4625 ∷ []
unfolding filter_count id_of body_start body_size
contents_read = refl

-- ids 7 and 300. TRUE, LEAF ≥ -2; then AND 1 2, OR 2 3, NOT 3, STEP 32,772→0, LEAF < 67,305,985, TRUE
abbrev pub bodies : List ℕ
bodies = trues 1 ++ (row 1 6 0 65534 65535 ++ (row 2 0 1 2 0 ++ (row 3 0 2 3 0 ++ (row 4 0 3 0 0 ++
    (row 5 0 32772 0 0 ++ (row 1 3 0 513 1027 ++ trues 1))))))

abbrev pub kinds : List ℕ
kinds = two 2 ++ (entry 7 18 2 ++ (entry 300 34 6 ++ bodies))

-- "states are numbered through the book in contents order"
pub states_are : states_of kinds
    ≡ TRUE ∷ LEAF (compares at_least (negsuc 1)) ∷ AND 3 4 ∷ OR 4 5 ∷ NOT 5 ∷ STEP 32772 2 ∷ LEAF (compares below (pos 67305985)) ∷ TRUE ∷ []
unfolding states_of states_of_first state_at relation_of signed4 up_to pick filter_count body_start body_size states_before
states_are = refl

pub numbered : map (states_before kinds) (0 ∷ 1 ∷ 2 ∷ []) ++ map (body_place kinds) (0 ∷ 1 ∷ 2 ∷ [])
    ≡ 0 ∷ 2 ∷ 8 ∷ 18 ∷ 34 ∷ 82 ∷ []
unfolding filter_count body_size states_before
numbered = refl

-- successors of two bytes, in a body whose state 0 is number 100, at place 3
pub both_bytes : map (λ (r : List ℕ). state_at (9 ∷ 9 ∷ 9 ∷ r) 100 3) (row 2 0 513 1027 0 ∷ row 3 0 513 1027 0 ∷
    row 4 0 513 0 0 ∷ row 5 0 513 1027 0 ∷ [])
    ≡ AND 613 1127 ∷ OR 613 1127 ∷ NOT 613 ∷ STEP 513 1127 ∷ []
unfolding state_at relation_of signed4 pick
both_bytes = refl

-- a kind that the table has not, which refusal 6 keeps out
pub other_kinds : map (λ (k : ℕ). state_at (row k 1 2 3 4) 100 0) (6 ∷ 7 ∷ 255 ∷ []) ≡ TRUE ∷ TRUE ∷ TRUE ∷ []
unfolding state_at relation_of signed4 pick
other_kinds = refl

-- "1 =, 2 ≠, 3 <, 4 ≤, 5 >, 6 ≥"
pub relations_are : map relation_of (1 ∷ 2 ∷ 3 ∷ 4 ∷ 5 ∷ 6 ∷ [])
    ≡ equal ∷ differs ∷ below ∷ at_most ∷ above ∷ at_least ∷ []
unfolding relation_of pick
relations_are = refl

-- ── "the very bytes of that body inside the book, or an empty part exactly when the book is refused or has no such
-- id" ──
-- ids 7, 300, then 299 that is none; then 7 in a book one byte longer, which is refused
pub bodies_are : map (body_of kinds) (7 ∷ 300 ∷ 299 ∷ []) ++ body_of (kinds ++ 0 ∷ []) 7 ∷ []
    ≡ take 16 bodies ∷ drop 16 bodies ∷ [] ∷ [] ∷ []
unfolding refusal_of body_of body_among part
bodies_are = refl

pub parts_are : map (part_of kinds) (7 ∷ 300 ∷ 299 ∷ []) ++ part_of (kinds ++ 0 ∷ []) 7 ∷ []
    ≡ record { start = 18; length = 16 } ∷ record { start = 34; length = 48 } ∷ record { start = 0; length = 0 } ∷
    record { start = 0; length = 0 } ∷ []
unfolding refusal_of part_of part_among
parts_are = refl
