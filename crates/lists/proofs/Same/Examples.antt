-- Lists that are the same and lists that are not, by computation.
use Rattle.std.specs.Prelude.{◌≡◌, refl, true, false, [], ◌∷◌, map}
use Rattle.lists.specs.Same.{same_list}

-- no list, a longer one, a shorter one, another first number, another last, the same
pub compared : same_list [] [] ∷ map (same_list (1 ∷ 2 ∷ [])) ([] ∷ (1 ∷ 2 ∷ 3 ∷ []) ∷ (1 ∷ []) ∷ (3 ∷ 2 ∷ []) ∷ (1 ∷
    3 ∷ []) ∷ (1 ∷ 2 ∷ []) ∷ [])
    ≡ true ∷ false ∷ false ∷ false ∷ false ∷ false ∷ true ∷ []
unfolding same_list
compared = refl

pub longer : map (same_list []) ([] ∷ (0 ∷ []) ∷ []) ≡ true ∷ false ∷ []
unfolding same_list
longer = refl
