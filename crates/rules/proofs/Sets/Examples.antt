-- Sets, and working out, proved by computation. Section "Questions and the memory".
use Rattle.std.specs.Prelude.{◌≡◌, refl, Bool, true, false, ◌||◌, List, [], ◌∷◌, ◌++◌, map, ℕ, ◌+◌, ◌^◌, eqb, pos, replicate}
use Rattle.lists.specs.Choice.{pick}
use Rattle.rules.specs.State.{compares, State, TRUE, LEAF, AND, OR, NOT, STEP, equal, differs, fits}
use Rattle.rules.specs.Value.{Value, no_text, no_number, out_of_range, number}
use Rattle.rules.specs.Match.{settle}
use Rattle.rules.specs.Sets.{
  bit_at,
  has,
  number_of,
  numbers_of,
  test_each,
  set_of,
  no_states,
  either,
  leaves_of,
  completes,
  completed,
  Question,
  gives_step,
  work_out,
}

-- bits 0 to 4 of 13; bits 63 and 64 of 2^63
pub bits : map (bit_at 13) (0 ∷ 1 ∷ 2 ∷ 3 ∷ 4 ∷ []) ++ map (bit_at (2 ^ 63)) (62 ∷ 63 ∷ 64 ∷ [])
    ≡ true ∷ false ∷ true ∷ true ∷ false ∷ false ∷ true ∷ false ∷ []
bits = refl

-- "state k is bit k mod 64 of number k div 64": states 0, 63, 64 and 511, and their neighbours
pub holds : map (has (2 ^ 63 ∷ 1 ∷ 0 ∷ 0 ∷ 0 ∷ 0 ∷ 0 ∷ 2 ^ 63 ∷ [])) (0 ∷ 62 ∷ 63 ∷ 64 ∷ 65 ∷ 447 ∷ 510 ∷ 511 ∷ 512 ∷
    [])
    ≡ false ∷ false ∷ true ∷ true ∷ false ∷ false ∷ false ∷ true ∷ false ∷ []
holds = refl

pub numbers : map number_of ([] ∷ (true ∷ []) ∷ (false ∷ true ∷ true ∷ []) ∷ []) ≡ 0 ∷ 1 ∷ 6 ∷ []
numbers = refl

-- 64 tests a number
pub in_numbers : map (λ (n : ℕ). numbers_of n (replicate 63 false ++ true ∷ true ∷ false ∷ true ∷ [])) (0 ∷ 1 ∷ 2 ∷ 3 ∷
    []) ≡ [] ∷ (2 ^ 63 ∷ []) ∷ (2 ^ 63 ∷ 5 ∷ []) ∷ (2 ^ 63 ∷ 5 ∷ 0 ∷ []) ∷ []
in_numbers = refl

-- each state with its number: of 512, those numbered 0, 63, 64 and 511; those that are TRUE; "a set is eight unsigned
-- 64-bit numbers"
pub sets : set_of (replicate 512 TRUE) (λ s k. eqb k 0 || eqb k 63 || eqb k 64 || eqb k 511)
    ≡ (2 ^ 63 + 1) ∷ 1 ∷ 0 ∷ 0 ∷ 0 ∷ 0 ∷ 0 ∷ 2 ^ 63 ∷ []
unfolding set_of test_each
sets = refl

pub by_state : map (λ (v : Value). leaves_of (TRUE ∷ LEAF (compares equal (pos 5)) ∷ AND 3 4 ∷ LEAF (compares differs (pos 5)) ∷ OR 5 5 ∷
    NOT 6 ∷ STEP 0 0 ∷ LEAF (compares equal (pos 6)) ∷ []) v) (number (pos 5) ∷ number (pos 6) ∷ no_number ∷ no_text ∷
    out_of_range ∷ [])
    ≡ (2 ∷ 0 ∷ 0 ∷ 0 ∷ 0 ∷ 0 ∷ 0 ∷ 0 ∷ []) ∷ (136 ∷ 0 ∷ 0 ∷ 0 ∷ 0 ∷ 0 ∷ 0 ∷ 0 ∷ []) ∷ replicate 8 0 ∷ replicate 8 0 ∷
    replicate 8 0 ∷ []
unfolding leaves_of set_of test_each
by_state = refl

pub none : no_states ≡ 0 ∷ 0 ∷ 0 ∷ 0 ∷ 0 ∷ 0 ∷ 0 ∷ 0 ∷ []
none = refl

-- two sets joined, in each of the eight numbers
pub joined : either (1 ∷ 2 ∷ 3 ∷ 4 ∷ 5 ∷ 6 ∷ 7 ∷ 8 ∷ []) (16 ∷ 32 ∷ 64 ∷ 128 ∷ 256 ∷ 512 ∷ 1024 ∷ 2048 ∷ [])
    ≡ 17 ∷ 34 ∷ 67 ∷ 132 ∷ 261 ∷ 518 ∷ 1031 ∷ 2056 ∷ []
unfolding either
joined = refl

-- what is in both comes once
pub joined_once : either (replicate 8 3) (replicate 8 6) ≡ replicate 8 7
unfolding either
joined_once = refl

-- ── working out: "completes TRUE, AND, OR and NOT over the asked set by the match rule" ──
-- a state of each kind, own as asked; state 0 is in the set and state 1 is not
pub kinds_complete : map (λ (own : Bool). map (λ (s : State). completes s own (λ k. eqb k 0)) (TRUE ∷
    LEAF (compares equal (pos 5)) ∷ AND 0 0 ∷ AND 0 1 ∷ AND 1 0 ∷ AND 1 1 ∷ OR 0 0 ∷ OR 0 1 ∷ OR 1 0 ∷ OR 1 1 ∷ NOT 0 ∷ NOT 1 ∷
    STEP 0 0 ∷ STEP 0 1 ∷ [])) (false ∷ true ∷ [])
    ≡ (true ∷ false ∷ true ∷ false ∷ false ∷ false ∷ true ∷ true ∷ true ∷ false ∷ false ∷ true ∷ false ∷ false ∷ []) ∷
    (true ∷ true ∷ true ∷ false ∷ false ∷ false ∷ true ∷ true ∷ true ∷ false ∷ false ∷ true ∷ true ∷ true ∷ []) ∷ []
kinds_complete = refl

-- NOT 1, AND 2 3, LEAF, OR 4 5, STEP, TRUE: asked nothing; the LEAF; the STEP; both; and, of a set that no node has,
-- the NOT and the AND
-- themselves, which play no part. There is no state 6
abbrev pub six : List State
six = NOT 1 ∷ AND 2 3 ∷ LEAF (compares equal (pos 5)) ∷ OR 4 5 ∷ STEP 2 1 ∷ TRUE ∷ []

abbrev pub alone : ℕ → List ℕ
alone w = w ∷ replicate 7 0

pub completed_are : map (λ (w : ℕ). map (completed six (alone w)) (0 ∷ 1 ∷ 2 ∷ 3 ∷ 4 ∷ 5 ∷ 6 ∷ [])) (0 ∷ 4 ∷ 16 ∷ 20 ∷
    3 ∷ [])
    ≡ (true ∷ false ∷ false ∷ true ∷ false ∷ true ∷ false ∷ []) ∷
    (false ∷ true ∷ true ∷ true ∷ false ∷ true ∷ false ∷ []) ∷
    (true ∷ false ∷ false ∷ true ∷ true ∷ true ∷ false ∷ []) ∷
    (false ∷ true ∷ true ∷ true ∷ true ∷ true ∷ false ∷ []) ∷
    (true ∷ false ∷ false ∷ true ∷ false ∷ true ∷ false ∷ []) ∷ []
unfolding completed settle
completed_are = refl

-- "each STEP whose label fits and whose successor the completed set holds": of the kinds only STEP; label 2 and state
-- 0 hold
pub kinds_given : map (gives_step 2 (λ k. eqb k 0)) (TRUE ∷ LEAF (compares equal (pos 5)) ∷ AND 0 0 ∷ OR 0 0 ∷ NOT 1 ∷ STEP 2 0 ∷
    STEP 2 1 ∷ STEP 3 0 ∷ STEP 0 0 ∷ STEP 32768 0 ∷ [])
    ≡ false ∷ false ∷ false ∷ false ∷ false ∷ true ∷ false ∷ false ∷ true ∷ false ∷ []
unfolding fits pick
kinds_given = refl

-- STEP 2→1 is state 4: given where AND 2 3 is completed and the label is 2
abbrev pub asks : ℕ → ℕ → Question
asks w x = record { states = alone w; label = x }

pub worked_out : map (work_out six) (asks 4 2 ∷ asks 4 3 ∷ asks 0 2 ∷ asks 16 2 ∷ asks 20 2 ∷ [])
    ≡ alone 16 ∷ alone 0 ∷ alone 0 ∷ alone 0 ∷ alone 16 ∷ []
unfolding work_out set_of test_each completed settle fits pick
worked_out = refl
