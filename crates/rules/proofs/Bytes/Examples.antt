-- Numbers in bytes, proved by computation. Section "Filter book": "numbers are little-endian"; "constant, signed 32
-- bits in bytes 4-7".
use Rattle.std.specs.Prelude.{◌≡◌, refl, List, [], ◌∷◌, map, ℕ, pos, negsuc}
use Rattle.lists.specs.Choice.{pick}
use Rattle.rules.specs.Bytes.{le2, le4, signed4}

abbrev pub key_of : List ℕ
key_of = 9 ∷ 1 ∷ 2 ∷ 3 ∷ 4 ∷ 255 ∷ 255 ∷ 255 ∷ 255 ∷ []

-- two bytes at places 0, 1, 4 and 7: 9 + 256, 1 + 2 * 256, 4 + 255 * 256, 65,535
pub two_bytes : map (le2 key_of) (0 ∷ 1 ∷ 4 ∷ 7 ∷ []) ≡ 265 ∷ 513 ∷ 65284 ∷ 65535 ∷ []
two_bytes = refl

-- four bytes at places 0, 1 and 5: 9 + 256 + 2 * 65,536 + 3 * 16,777,216, then 1, 2, 3, 4, then 2^32 - 1
pub four_bytes : map (le4 key_of) (0 ∷ 1 ∷ 5 ∷ []) ≡ 50462985 ∷ 67305985 ∷ 4294967295 ∷ []
four_bytes = refl

-- 32 bits as a signed number, on both sides of 2^31
pub signed : map signed4 (0 ∷ 127 ∷ 128 ∷ 2147483647 ∷ 2147483648 ∷ 2147483649 ∷ 4294967294 ∷ 4294967295 ∷ [])
    ≡ pos 0 ∷ pos 127 ∷ pos 128 ∷ pos 2147483647 ∷ negsuc 2147483647 ∷ negsuc 2147483646 ∷ negsuc 1 ∷ negsuc 0 ∷ []
unfolding pick signed4
signed = refl
