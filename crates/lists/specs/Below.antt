-- The numbers below n: some of them pass a test, a list over all of them, a number of which they are the bits.
use Rattle.std.specs.Prelude.{Bool, true, false, ◌||◌, List, [], ◌∷◌, ◌++◌, ℕ, zero, suc, ◌+◌, ◌*◌, ◌^◌, ◌<◌}
use Rattle.std.specs.Bool.{MatchBool}
pub mod Laws
pub mod Searched
pub mod Laid
pub mod Ranges
pub mod Examples

-- some number below n passes the test
unfoldable pub some_below : (ℕ → Bool) → ℕ → Bool
some_below p zero = false
some_below p (suc n) = some_below p n || p n

-- r says whether some number below n is answered true; every number asked is answered
abbrev pub AnyBelow : (ℕ → Bool → Type 0) → ℕ → Bool → Type 0
AnyBelow answers n r = MatchBool r ((i : ℕ) × (i < n) × answers i true) ((i : ℕ) → i < n → answers i false)

-- the list f 0, f 1, .. of n members
unfoldable pub up_to : {A : Type 0} → (ℕ → A) → ℕ → List A
up_to f zero = []
up_to f (suc n) = up_to f n ++ f n ∷ []

abbrev pub bit : Bool → ℕ
bit true = 1
bit false = 0

-- the number whose bit k is f k, for k below n
unfoldable pub flags : (ℕ → Bool) → ℕ → ℕ
flags f zero = 0
flags f (suc n) = flags f n + bit (f n) * 2 ^ n
