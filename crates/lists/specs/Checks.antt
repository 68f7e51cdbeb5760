-- Checks in an order: the first that fails gives its number. The order is the list's own, whatever the numbers.
use Rattle.std.specs.Prelude.{◌≡◌, Bool, true, false, List, [], ◌∷◌, ◌++◌, ℕ, ◌+◌, eqb}
pub mod Laws
pub mod Examples

pub record Check : Type 0 where
  pub number : ℕ
  pub fails : Bool

-- the number of the first check that fails; 0 where none does
unfoldable pub first_of : List Check → ℕ
first_of [] = 0
first_of (c ∷ cs) = elim c.fails [ true ↦ c.number | false ↦ first_of cs ]

-- the same checks, each number raised by k
abbrev pub raised : ℕ → List Check → List Check
raised k [] = []
raised k (c ∷ cs) = record { number = k + c.number; fails = c.fails } ∷ raised k cs

-- the condition of the first row with number n
abbrev pub row_fails : List Check → ℕ → Bool
row_fails [] n = false
row_fails (c ∷ cs) n = elim (eqb c.number n) [ true ↦ c.fails | false ↦ row_fails cs n ]

-- no row fails
abbrev pub AllPass : List Check → Type 0
AllPass [] = Unit {0}
AllPass (c ∷ cs) = (c.fails ≡ false) × AllPass cs

-- n is given: a row with this number fails, and no row before it in the list does
pub record FirstToFail (cs : List Check) (n : ℕ) : Type 0 where
  pub before : List Check
  pub row : Check
  pub after : List Check
  pub order : cs ≡ before ++ row ∷ after
  pub earlier : AllPass before
  pub own : row.fails ≡ true
  pub number : row.number ≡ n
