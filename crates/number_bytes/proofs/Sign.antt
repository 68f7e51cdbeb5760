-- 32 bits read as a signed number, below the half of their range and from it on.
use Rattle.std.proofs.Common.{◌≡◌, ℕ, ◌-◌, ◌<◌, ◌≤◌, ap, ◌∙◌, arith, to_z, of_z, w32}
use Rattle.std.proofs.Math.Decide.{dec_lt}
use Rattle.std.proofs.lemmas.Int.{of_z-to_z}
use Rattle.std.specs.Int.{cast_signed}
use Rattle.std.specs.Prelude.{ℤ, negsuc}
use borrow.Author.Tests.{lt-ltb, le-ltb}
use Rattle.lists.specs.Choice.{pick}
use Rattle.rules.specs.Bytes.{signed4}

pub small_signed : (u : ℕ) → u < 2147483648 → to_z w32 u ≡ signed4 u
unfolding signed4 pick
small_signed u h = simp (lt-ltb _ _ h)

pub large_signed : (u : ℕ) → 2147483648 ≤ u → u < 4294967296 → to_z w32 (4294967295 - (4294967295 - u)) ≡ signed4 u
unfolding signed4 pick
large_signed u h b =
    let e : 4294967295 - (4294967295 - u) ≡ u = omega arith in
    rw e (simp (le-ltb _ _ h) (ap negsuc (omega arith)))

-- so `cast_signed` reads them; an i32 that a call gave is read back from its bits
pub cast_is : (u : ℕ) (z : ℤ) → u < 4294967296 → z ≡ cast_signed w32 u → to_z w32 (of_z w32 z) ≡ signed4 u
cast_is u z b e =
    let bits : of_z w32 z ≡ u = ap (of_z w32) e ∙ of_z-to_z w32 u b in
    rw bits (elim (dec_lt u 2147483648) [
      | yes l ↦ small_signed u l
      | no l ↦ let d : 4294967295 - (4294967295 - u) ≡ u = omega arith in rw d at (large_signed u (omega arith) b)
    ])
