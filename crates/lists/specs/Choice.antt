-- A choice between two values by a test.
use Rattle.std.specs.Prelude.{Bool, true, false}
pub mod Laws
pub mod Examples

unfoldable pub pick : {A : Type 0} → Bool → A → A → A
pick true a b = a
pick false a b = b
