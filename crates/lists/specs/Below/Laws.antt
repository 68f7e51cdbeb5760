-- Laws of the numbers below n: some of them pass a test, a list over all of them, a number of which they are the bits.
use Rattle.std.specs.Prelude.{◌≡◌, Bool, true, false, length, get_or}
use Rattle.std.proofs.Math.Path.{refl}
use Rattle.std.proofs.Common.{sym, ◌∙◌, true≢false, not-suc-le-zero, pow-suc, add-zero, add-suc, add-one, length-append}
use Rattle.std.proofs.Math.Bool.{or-true}
use mathlib.Core.List.{[], ◌∷◌, ◌++◌, append_assoc, append-nil}
use Prim.Native.Nat.{ℕ, zero, suc, ◌+◌, ◌*◌, ◌^◌, ◌<◌, ◌≤◌}
use native.Mathlib.Omega.{arith}
use Rattle.std.proofs.Math.Decide.{dec_lt}
use Rattle.std.proofs.Math.ListN.{get_or-append}
use Rattle.std.proofs.lemmas.List.{get_or_at}
use Rattle.lists.specs.Below.{some_below, up_to, bit, flags}

-- one that passes is some; a loop stops at it
pub some_below_hit : (p : ℕ → Bool) (n i : ℕ) → i < n → p i ≡ true → some_below p n ≡ true
unfolding some_below
some_below_hit p zero i h e = absurd (not-suc-le-zero h)
some_below_hit p (suc n) i h e = elim (dec_lt i n) [
  | yes l ↦ rw (some_below_hit p n i l e)
  | no l ↦ let d : i ≡ n = omega arith in rw (rw d at e) (or-true (some_below p n))
]

-- one more that does not
pub some_below_miss : (p : ℕ → Bool) (n : ℕ) → some_below p n ≡ false → p n ≡ false → some_below p (n + 1) ≡ false
unfolding some_below
some_below_miss p n h e = rw (add-one, h, e)

pub some_below_none : (p : ℕ → Bool) → some_below p 0 ≡ false
unfolding some_below
some_below_none p = refl

-- where none passes, each fails
pub some_below_each : (p : ℕ → Bool) (n i : ℕ) → some_below p n ≡ false → i < n → p i ≡ false
some_below_each p n i h l = go (p i) refl
  where
    go : (t : Bool) → p i ≡ t → p i ≡ false
    go true e = absurd (true≢false (sym (some_below_hit p n i l e) ∙ h))
    go false e = e

-- a sum over the numbers below n: what it is with number k is at most the whole
pub sum_rises : (sum size : ℕ → ℕ) → ((k : ℕ) → sum (suc k) ≡ sum k + size k) → (k n : ℕ) → k < n → sum k + size k ≤ sum n
sum_rises sum size e k zero h = absurd (not-suc-le-zero h)
sum_rises sum size e k (suc n) h = elim (dec_lt k n) [
  | yes l ↦ omega (arith, e n, sum_rises sum size e k n l)
  | no l ↦ let d : k ≡ n = omega arith in rw (d, e n) (omega arith)
]

module _ {A : Type 0} (f : ℕ → A) where
  pub up_to_long : (n : ℕ) → length (up_to f n) ≡ n
  unfolding up_to
  up_to_long zero = refl
  up_to_long (suc n) = rw (length-append, up_to_long n) (omega arith)

  pub up_to_at : (n i : ℕ) (d : A) → i < n → get_or (up_to f n) i d ≡ f i
  unfolding up_to
  up_to_at zero i d h = absurd (not-suc-le-zero h)
  up_to_at (suc n) i d h = elim (dec_lt i n) [
    | yes l ↦ get_or-append (up_to f n) (f n ∷ []) d i (rw up_to_long l) ∙ up_to_at n i d l
    | no l ↦ let e : i ≡ n = omega arith in rw e (get_or_at (up_to f n) (f n) [] d n (up_to_long n))
  ]

pub flags_lt : (f : ℕ → Bool) (n : ℕ) → flags f n < 2 ^ n
unfolding flags
flags_lt f zero = omega arith
flags_lt f (suc n) = rw (pow-suc 2 n) (go (f n) (flags_lt f n))
  where
    go : (x : Bool) → flags f n < 2 ^ n → flags f n + bit x * 2 ^ n < 2 ^ n * 2
    go true h = omega arith
    go false h = omega arith

module _ {A : Type 0} where
  pub up_to_same : (f g : ℕ → A) (n : ℕ) → ((i : ℕ) → i < n → f i ≡ g i) → up_to f n ≡ up_to g n
  unfolding up_to
  up_to_same f g zero e = refl
  up_to_same f g (suc n) e = rw (up_to_same f g n (λ i h. e i (omega arith)), e n (omega arith))

  pub up_to_add : (f : ℕ → A) (m n : ℕ) → up_to f (m + n) ≡ up_to f m ++ up_to (λ i. f (m + i)) n
  unfolding up_to
  up_to_add f m zero = rw (add-zero) (sym (append-nil (up_to f m)))
  up_to_add f m (suc n) = rw (add-suc) (rw (up_to_add f m n) (append_assoc (up_to f m) (up_to (λ i. f (m + i)) n) (f (m + n) ∷ [])))
