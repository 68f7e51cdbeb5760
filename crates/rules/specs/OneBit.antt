-- One bit of a set put to a value.
use Rattle.std.specs.Prelude.{Bool, true, false, List, ℕ, ◌/◌, ◌%◌, ◌^◌, bit_or, bit_xor, get_or, set}
use Rattle.rules.specs.Sets.{bits_each}

unfoldable pub number_put : ℕ → ℕ → Bool → ℕ
number_put w m true = bit_or w (2 ^ m)
number_put w m false = bit_xor (bit_or w (2 ^ m)) (2 ^ m)

unfoldable pub put : List ℕ → ℕ → Bool → List ℕ
put s k x = set s (k / bits_each) (number_put (get_or s (k / bits_each) 0) (k % bits_each) x)
