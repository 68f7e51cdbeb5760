-- Whether some number below n is answered true: by computation, and where each answer is that of a test.
use Rattle.std.specs.Prelude.{◌≡◌, refl, Bool, true, false, ℕ, zero, suc, ◌<◌, eqb}
use Rattle.std.proofs.Common.{sym, arith}
use Rattle.lists.specs.Below.{some_below, AnyBelow}
use Rattle.lists.specs.Below.Laws.{some_below_hit}

-- asked which of them is 2: 2 is below 3, and no number below 2 is
pub some_answered : AnyBelow (λ k b. b ≡ eqb k 2) 3 true
some_answered = (2, omega arith, refl)

pub none_answered : AnyBelow (λ k b. b ≡ eqb k 2) 2 false
none_answered zero h = refl
none_answered (suc zero) h = refl
none_answered (suc (suc k)) h = absurd (omega arith)

some_below_no : (p : ℕ → Bool) (n : ℕ) → ((i : ℕ) → i < n → p i ≡ false) → some_below p n ≡ false
unfolding some_below
some_below_no p zero e = refl
some_below_no p (suc n) e = rw (some_below_no p n (λ i h. e i (omega arith)), e n (omega arith))

pub some_below_is : (p : ℕ → Bool) {answers : ℕ → Bool → Type 0} (n : ℕ) (r : Bool) → AnyBelow answers n r → ((i : ℕ) (t : Bool) → i < n → answers i t → t ≡ p i) → r ≡ some_below p n
some_below_is p n true a e = sym (some_below_hit p n a.0 a.1 (sym (e a.0 true a.1 a.2)))
some_below_is p n false a e = sym (some_below_no p n (λ i h. sym (e i false h (a i h))))
