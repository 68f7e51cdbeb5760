-- The numbers below n, by computation.
use Rattle.std.specs.Prelude.{◌≡◌, refl, true, false, ◌||◌, [], ◌∷◌, map, ◌+◌, eqb}
use Rattle.lists.specs.Below.{some_below, up_to, bit, flags}

-- 2 is below 3 and not below 2; 0 is below 1 and not below 0
pub searched : map (some_below (λ k. eqb k 2)) (0 ∷ 1 ∷ 2 ∷ 3 ∷ 4 ∷ []) ≡ false ∷ false ∷ false ∷ true ∷ true ∷ []
unfolding some_below
searched = refl

pub first_searched : map (some_below (λ k. eqb k 0)) (0 ∷ 1 ∷ 2 ∷ []) ≡ false ∷ true ∷ true ∷ []
unfolding some_below
first_searched = refl

pub listed : map (up_to (λ k. k + 5)) (0 ∷ 1 ∷ 3 ∷ []) ≡ [] ∷ (5 ∷ []) ∷ (5 ∷ 6 ∷ 7 ∷ []) ∷ []
unfolding up_to
listed = refl

pub bits : map bit (true ∷ false ∷ []) ≡ 1 ∷ 0 ∷ []
bits = refl

-- bits 0 and 2
pub flagged : map (flags (λ k. eqb k 0 || eqb k 2)) (0 ∷ 1 ∷ 2 ∷ 3 ∷ 4 ∷ []) ≡ 0 ∷ 1 ∷ 1 ∷ 5 ∷ 5 ∷ []
unfolding flags
flagged = refl
