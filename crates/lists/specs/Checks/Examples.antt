-- Lists of checks, by computation.
use Rattle.std.specs.Prelude.{◌≡◌, refl, Bool, true, false, [], ◌∷◌, map, ℕ}
use Rattle.lists.specs.Checks.{Check, first_of, raised, row_fails, FirstToFail}

abbrev pub check : ℕ → Bool → Check
check n b = record { number = n; fails = b }

-- the first that fails gives its number; 0 where none does
pub firsts : map first_of (
    [] ∷ (check 3 true ∷ check 5 true ∷ []) ∷ (check 3 false ∷ check 5 true ∷ []) ∷ (check 5 true ∷ check 3 true ∷
    []) ∷
    (check 3 false ∷ check 5 false ∷ []) ∷ [])
    ≡ 0 ∷ 3 ∷ 5 ∷ 5 ∷ 0 ∷ []
unfolding first_of
firsts = refl

-- the condition of the row with the number, and false where there is none
pub rows : map (row_fails (check 3 false ∷ check 5 true ∷ [])) (3 ∷ 5 ∷ 4 ∷ []) ≡ false ∷ true ∷ false ∷ []
rows = refl

-- a second book's numbers
pub sixty_more : raised 60 (check 3 false ∷ check 5 true ∷ []) ≡ check 63 false ∷ check 65 true ∷ []
sixty_more = refl

-- 13 stands between 5 and 6: it is given before 6, though it is more
pub between : FirstToFail (check 5 false ∷ check 13 true ∷ check 6 true ∷ []) 13
between = record {
  before = check 5 false ∷ [];
  row = check 13 true;
  after = check 6 true ∷ [];
  order = refl;
  earlier = (refl, tt);
  own = refl;
  number = refl;
}
