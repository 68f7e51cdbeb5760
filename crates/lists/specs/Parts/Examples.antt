-- Parts of a list, by computation.
use Rattle.std.specs.Prelude.{◌≡◌, refl, List, [], ◌∷◌, ℕ}
use Rattle.lists.specs.Parts.{part, patch}

abbrev pub five : List ℕ
five = 1 ∷ 2 ∷ 3 ∷ 4 ∷ 5 ∷ []

-- from the start, from the middle, none, and past the end
pub taken : part five 0 2 ∷ part five 1 3 ∷ part five 2 0 ∷ part five 4 3 ∷ []
    ≡ (1 ∷ 2 ∷ []) ∷ (2 ∷ 3 ∷ 4 ∷ []) ∷ [] ∷ (5 ∷ []) ∷ []
unfolding part
taken = refl

pub put : patch five 0 (7 ∷ 8 ∷ []) ∷ patch five 1 (7 ∷ 8 ∷ []) ∷ patch five 3 (7 ∷ 8 ∷ []) ∷ patch five 2 [] ∷ []
    ≡ (7 ∷ 8 ∷ 3 ∷ 4 ∷ 5 ∷ []) ∷ (1 ∷ 7 ∷ 8 ∷ 4 ∷ 5 ∷ []) ∷ (1 ∷ 2 ∷ 3 ∷ 7 ∷ 8 ∷ []) ∷ five ∷ []
unfolding patch
put = refl
