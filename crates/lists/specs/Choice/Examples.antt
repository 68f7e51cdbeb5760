-- A choice each way, by computation.
use Rattle.std.specs.Prelude.{◌≡◌, refl, Bool, true, false, [], ◌∷◌, map, ℕ}
use Rattle.lists.specs.Choice.{pick}

pub picked : map {B = ℕ} (λ (c : Bool). pick c 7 8) (true ∷ false ∷ []) ≡ 7 ∷ 8 ∷ []
unfolding pick
picked = refl
