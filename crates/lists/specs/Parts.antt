-- A part of a list, and the list with a part put in its place: what a lent part is, and what the whole is when it
-- comes back.
use Rattle.std.specs.Prelude.{ℕ, List, ◌++◌, length, take, drop}
pub mod Laws
pub mod Examples

unfoldable pub part : List ℕ → ℕ → ℕ → List ℕ
part s a n = take n (drop a s)

unfoldable pub patch : List ℕ → ℕ → List ℕ → List ℕ
patch s a l = take a s ++ (l ++ drop (length l) (drop a s))
