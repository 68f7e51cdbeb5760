-- Laws of sets: the bits of a set that is made, joined or changed by one bit; and a set is its bits.
use Rattle.std.specs.Prelude.{◌≡◌, refl, Bool, true, false, ◌||◌, not, List, [], ◌∷◌, ℕ, zero, suc, ◌+◌, ◌-◌, ◌*◌, ◌/◌, ◌%◌, ◌^◌, ◌<◌, ◌≤◌, eqb, ltb, length, get_or, set, take, drop}
use Rattle.std.proofs.Common.{sym, ◌∙◌, ap, ap₂, true≢false, mod-eq_of_lt, div-one, pow-suc, one-mul, zero-add, add-zero, add-suc, suc-add, not-suc-le-zero, one-add, arith, length-set, length-take, ext_get_or, get_or-set_same, get_or-set_other, get_or-take, get_or-drop, shr-shr, pow_pos, shl_exact, eq-eqb, ne_eqb, ltb-true, ltb-false}
use Rattle.std.proofs.Math.Bool.{or-true, or-false}
use Rattle.std.proofs.lemmas.Bool.{false≢true}
use Rattle.std.proofs.Math.Nat.{zero-div, div-eq_of_lt}
use Rattle.std.proofs.Math.Decide.{dec_lt, ℕ_discrete}
use Rattle.std.proofs.Math.Dec.{eqb-suc-suc}
use Rattle.std.proofs.lemmas.List.{get_or-replicate}
use Rattle.std.proofs.Math.ListN.{get_or-eq_default}
use Rattle.std.specs.Int.Bits.{bit_or, bit_xor}
use Rattle.std.proofs.lemmas.Nat.{or_shr, or_mod, or_lt, xor_shr, xor_mod}
use Rattle.rules.specs.Book.{most_states}
use Rattle.lists.specs.Below.{bit}
use Rattle.rules.specs.State.{State, TRUE}
use Rattle.rules.specs.OneBit.{number_put, put}
use Rattle.rules.specs.Sets.{set_width, bits_each, has, number_of, numbers_of, test_each, set_of, either, no_states, bit_at}

half_number : (x : Bool) (n : ℕ) → (bit x + 2 * n) / 2 ≡ n
half_number true n = omega arith
half_number false n = omega arith

odd_number : (x : Bool) (n : ℕ) → eqb ((bit x + 2 * n) / 1 % 2) 1 ≡ x
odd_number true n = let e : (1 + 2 * n) / 1 % 2 ≡ 1 = omega arith in rw e refl
odd_number false n = let e : (0 + 2 * n) / 1 % 2 ≡ 0 = omega arith in rw e refl

pub number_bit : (xs : List Bool) (j : ℕ) → bit_at (number_of xs) j ≡ get_or xs j false
number_bit [] j = rw zero-div refl
number_bit (x ∷ xs) zero = odd_number x (number_of xs)
number_bit (x ∷ xs) (suc j) =
    ap (λ n. eqb (n % 2) 1) (ap (λ k. number_of (x ∷ xs) / 2 ^ k) (sym (one-add j)) ∙ sym (shr-shr (number_of (x ∷ xs)) 1 j) ∙ ap (λ n. n / 2 ^ j) (half_number x (number_of xs)))
    ∙ number_bit xs j

number_lt : (n : ℕ) (xs : List Bool) → length xs ≤ n → number_of xs < 2 ^ n
number_lt zero [] h = omega arith
number_lt zero (x ∷ xs) h = absurd (omega arith)
number_lt (suc n) [] h = rw (pow-suc 2 n) (omega (arith, number_lt n [] (omega arith)))
number_lt (suc n) (x ∷ xs) h = rw (pow-suc 2 n) (go x (number_lt n xs (omega arith)))
  where
    go : (x : Bool) → number_of xs < 2 ^ n → bit x + 2 * number_of xs < 2 ^ n * 2
    go true h = omega arith
    go false h = omega arith

-- a bit of what is worked out bit by bit, from the four cases
bit_of : (op : ℕ → ℕ → ℕ) (g : Bool → Bool → Bool) (x y : ℕ) → x < 2 → y < 2 →
    eqb (op 0 0) 1 ≡ g false false → eqb (op 0 1) 1 ≡ g false true → eqb (op 1 0) 1 ≡ g true false → eqb (op 1 1) 1 ≡ g true true →
    eqb (op x y) 1 ≡ g (eqb x 1) (eqb y 1)
bit_of op g zero zero h k a b c d = a
bit_of op g zero (suc zero) h k a b c d = b
bit_of op g (suc zero) zero h k a b c d = c
bit_of op g (suc zero) (suc zero) h k a b c d = d
bit_of op g zero (suc (suc y)) h k a b c d = absurd (omega arith)
bit_of op g (suc zero) (suc (suc y)) h k a b c d = absurd (omega arith)
bit_of op g (suc (suc x)) y h k a b c d = absurd (omega arith)

-- the bits of `|`
pub or_bit : (a b k : ℕ) → bit_at (bit_or a b) k ≡ bit_at a k || bit_at b k
or_bit a b k =
    ap (λ n. eqb n 1) (ap (λ n. n % 2) (or_shr a b k) ∙ or_mod (a / 2 ^ k) (b / 2 ^ k) 1)
    ∙ bit_of bit_or (λ x y. x || y) (a / 2 ^ k % 2) (b / 2 ^ k % 2) (omega arith) (omega arith) refl refl refl refl

-- the bits of `^`
abbrev pub exactly_one : Bool → Bool → Bool
exactly_one true y = not y
exactly_one false y = y

pub xor_bit : (a b k : ℕ) → bit_at (bit_xor a b) k ≡ exactly_one (bit_at a k) (bit_at b k)
xor_bit a b k =
    ap (λ n. eqb n 1) (ap (λ n. n % 2) (xor_shr a b k) ∙ xor_mod (a / 2 ^ k) (b / 2 ^ k) 1)
    ∙ bit_of bit_xor exactly_one (a / 2 ^ k % 2) (b / 2 ^ k % 2) (omega arith) (omega arith) refl refl refl refl

-- the bits of `1 << i`
pub pow_bit : (i k : ℕ) → bit_at (2 ^ i) k ≡ eqb i k
pow_bit zero zero = refl
pow_bit zero (suc k) =
    let p : 0 < 2 ^ k = pow_pos k in
    let h : 1 < 2 ^ suc k = omega arith in
    rw (div-eq_of_lt h) (sym (ne_eqb 0 (suc k) (λ e. omega arith)))
pow_bit (suc i) zero =
    let e : 2 ^ suc i / 2 ^ 0 % 2 ≡ 0 = omega arith in
    rw e (sym (ne_eqb (suc i) 0 (λ u. omega arith)))
pow_bit (suc i) (suc k) =
    ap (λ n. eqb (n % 2) 1) (ap (λ j. 2 ^ suc i / 2 ^ j) (sym (one-add k)) ∙ sym (shr-shr (2 ^ suc i) 1 k) ∙ ap (λ n. n / 2 ^ k) (half i)) ∙ pow_bit i k ∙ sym (eqb-suc-suc i k)
  where
    half : (i : ℕ) → 2 ^ suc i / 2 ^ 1 ≡ 2 ^ i
    half i = omega arith

-- what the code's `1 << (k % bits_each)` holds
pub bit_shl : (k : ℕ) → (1 * 2 ^ (k % bits_each)) % 2 ^ 64 ≡ 2 ^ (k % bits_each)
bit_shl k = shl_exact 1 (k % bits_each) bits_each (omega arith) (omega arith) ∙ one-mul (2 ^ (k % bits_each))

half_bit : (w k : ℕ) → bit_at (w / 2) k ≡ bit_at w (suc k)
half_bit w k = ap (λ n. eqb (n % 2) 1) (shr-shr w 1 k ∙ ap (λ j. w / 2 ^ j) (one-add k))

odd_same : (x y : ℕ) → eqb (x % 2) 1 ≡ eqb (y % 2) 1 → x % 2 ≡ y % 2
odd_same x y e = go (x % 2) (y % 2) (omega arith) (omega arith) e
  where
    go : (a b : ℕ) → a < 2 → b < 2 → eqb a 1 ≡ eqb b 1 → a ≡ b
    go zero zero h k e = refl
    go zero (suc zero) h k e = absurd (false≢true e)
    go (suc zero) zero h k e = absurd (true≢false e)
    go (suc zero) (suc zero) h k e = refl
    go zero (suc (suc b)) h k e = absurd (omega arith)
    go (suc zero) (suc (suc b)) h k e = absurd (omega arith)
    go (suc (suc a)) b h k e = absurd (omega arith)

-- two numbers with the same bits are one
pub bits_ext : (n w u : ℕ) → w < 2 ^ n → u < 2 ^ n → ((k : ℕ) → k < n → bit_at w k ≡ bit_at u k) → w ≡ u
bits_ext zero w u h k e = omega arith
bits_ext (suc n) w u h k e =
    let d : w / 2 ≡ u / 2 = bits_ext n (w / 2) (u / 2) (omega arith) (omega arith) (λ i l. half_bit w i ∙ e (suc i) (omega arith) ∙ sym (half_bit u i)) in
    let m : w % 2 ≡ u % 2 = odd_same w u (ap (λ n. eqb (n % 2) 1) (sym (div-one w)) ∙ e 0 (omega arith) ∙ ap (λ n. eqb (n % 2) 1) (div-one u)) in
    omega arith

-- ── a set that is made ──
numbers_bit : (n : ℕ) (xs : List Bool) (k : ℕ) → k < bits_each * n → has (numbers_of n xs) k ≡ get_or xs k false
numbers_bit zero xs k h = absurd (omega arith)
numbers_bit (suc n) xs k h = go (ltb k bits_each) refl (λ j u. numbers_bit n (drop bits_each xs) j u)
  where
    go : (t : Bool) → ltb k bits_each ≡ t → ((j : ℕ) → j < bits_each * n → has (numbers_of n (drop bits_each xs)) j ≡ get_or (drop bits_each xs) j false) → has (numbers_of (suc n) xs) k ≡ get_or xs k false
    go true e ih =
        let l : k < bits_each = ltb-true k bits_each e in
        rw (div-eq_of_lt l, mod-eq_of_lt l) (number_bit (take bits_each xs) k ∙ get_or-take bits_each xs k false l)
    go false e ih =
        let l : bits_each ≤ k = ltb-false k bits_each e in
        let d : k / bits_each ≡ suc ((k - bits_each) / bits_each) = omega arith in
        let m : k % bits_each ≡ (k - bits_each) % bits_each = omega arith in
        let w : bits_each + (k - bits_each) ≡ k = omega arith in
        rw (d, m) (ih (k - bits_each) (omega arith) ∙ get_or-drop bits_each xs (k - bits_each) false ∙ ap (λ i. get_or xs i false) w)

numbers_lt : (n : ℕ) (xs : List Bool) (i : ℕ) → get_or (numbers_of n xs) i 0 < 2 ^ 64
numbers_lt zero xs i = omega arith
numbers_lt (suc n) xs zero = number_lt bits_each (take bits_each xs) (rw length-take (omega arith))
numbers_lt (suc n) xs (suc i) = numbers_lt n (drop bits_each xs) i

row_at : (f : State → ℕ → Bool) (b : List State) (k j : ℕ) → j < length b → get_or (test_each f b k) j false ≡ f (get_or b j TRUE) (k + j)
unfolding test_each
row_at f [] k j h = absurd (not-suc-le-zero h)
row_at f (s ∷ ss) k zero h = rw add-zero
row_at f (s ∷ ss) k (suc j) h = row_at f ss (suc k) j (omega arith) ∙ ap (f (get_or ss j TRUE)) (suc-add k j ∙ sym (add-suc k j))

row_long : (f : State → ℕ → Bool) (b : List State) (k : ℕ) → length (test_each f b k) ≡ length b
unfolding test_each
row_long f [] k = refl
row_long f (s ∷ ss) k = ap suc (row_long f ss (suc k))

pub set_of_long : (b : List State) (f : State → ℕ → Bool) → length (set_of b f) ≡ set_width
unfolding set_of
set_of_long b f = refl

pub set_of_fits : (b : List State) (f : State → ℕ → Bool) (i : ℕ) → get_or (set_of b f) i 0 < 2 ^ 64
unfolding set_of
set_of_fits b f i = numbers_lt 8 (test_each f b 0) i

pub has_set_of : (b : List State) (f : State → ℕ → Bool) (k : ℕ) → k < length b → length b ≤ most_states → has (set_of b f) k ≡ f (get_or b k TRUE) k
unfolding set_of
has_set_of b f k h u = numbers_bit 8 (test_each f b 0) k (omega arith) ∙ rw zero-add at (row_at f b 0 k h)

pub has_past : (b : List State) (f : State → ℕ → Bool) (k : ℕ) → length b ≤ k → k < most_states → has (set_of b f) k ≡ false
unfolding set_of
has_past b f k h u = numbers_bit 8 (test_each f b 0) k (omega arith) ∙ get_or-eq_default (test_each f b 0) false {n = k} (rw row_long h)

-- two tests that agree at every state make one set
row_agree : (f g : State → ℕ → Bool) (b : List State) (k : ℕ) → ((i : ℕ) → i < length b → f (get_or b i TRUE) (k + i) ≡ g (get_or b i TRUE) (k + i)) → test_each f b k ≡ test_each g b k
unfolding test_each
row_agree f g [] k e = refl
row_agree f g (s ∷ ss) k e =
    ap₂ (λ x l. x ∷ l) (rw add-zero at (e 0 (omega arith)))
    (row_agree f g ss (suc k) (λ i h. let d : k + suc i ≡ suc k + i = omega arith in rw d at (e (suc i) (omega arith))))

pub set_of_agree : (b : List State) (f g : State → ℕ → Bool) → ((k : ℕ) → k < length b → f (get_or b k TRUE) k ≡ g (get_or b k TRUE) k) → set_of b f ≡ set_of b g
unfolding set_of
set_of_agree b f g e = ap (numbers_of 8) (row_agree f g b 0 (λ i h. rw zero-add (e i h)))

-- a set is its bits
pub set_ext : (s t : List ℕ) → length s ≡ set_width → length t ≡ set_width → ((i : ℕ) → get_or s i 0 < 2 ^ 64) → ((i : ℕ) → get_or t i 0 < 2 ^ 64) →
    ((k : ℕ) → k < most_states → has s k ≡ has t k) → s ≡ t
set_ext s t e d u w f =
    ext_get_or 0 s t (e ∙ sym d)
    (λ i h.
    bits_ext bits_each (get_or s i 0) (get_or t i 0) (u i) (w i)
    (λ k b.
    let q : (i * bits_each + k) / bits_each ≡ i = omega arith in
    let m : (i * bits_each + k) % bits_each ≡ k = omega arith in
    rw (q, m) at (f (i * bits_each + k) (omega arith))))

-- ── two sets joined ──
pub either_at : (a b : List ℕ) (i : ℕ) → i < 8 → get_or (either a b) i 0 ≡ bit_or (get_or a i 0) (get_or b i 0)
unfolding either
either_at a b zero h = refl
either_at a b (suc zero) h = refl
either_at a b (suc (suc zero)) h = refl
either_at a b (suc (suc (suc zero))) h = refl
either_at a b (suc (suc (suc (suc zero)))) h = refl
either_at a b (suc (suc (suc (suc (suc zero))))) h = refl
either_at a b (suc (suc (suc (suc (suc (suc zero)))))) h = refl
either_at a b (suc (suc (suc (suc (suc (suc (suc zero))))))) h = refl
either_at a b (suc (suc (suc (suc (suc (suc (suc (suc i)))))))) h = absurd (omega arith)

pub either_long : (a b : List ℕ) → length (either a b) ≡ set_width
unfolding either
either_long a b = refl

pub either_fits : (a b : List ℕ) → ((i : ℕ) → get_or a i 0 < 2 ^ 64) → ((i : ℕ) → get_or b i 0 < 2 ^ 64) → (i : ℕ) → get_or (either a b) i 0 < 2 ^ 64
either_fits a b u w i = elim (dec_lt i 8) [
  | yes h ↦ rw (either_at a b i h) (or_lt bits_each (get_or a i 0) (get_or b i 0) (u i) (w i))
  | no h ↦ rw (get_or-eq_default (either a b) 0 {n = i} (rw either_long (omega arith))) (omega arith)
]

pub has_either : (a b : List ℕ) (k : ℕ) → k < most_states → has (either a b) k ≡ has a k || has b k
has_either a b k h = rw (either_at a b (k / bits_each) (omega arith)) (or_bit (get_or a (k / bits_each) 0) (get_or b (k / bits_each) 0) (k % bits_each))

pub has_no_states : (k : ℕ) → has no_states k ≡ false
has_no_states k = elim (dec_lt (k / bits_each) 8) [
  | yes h ↦ rw (get_or-replicate {A = ℕ} 8 (k / bits_each) 0 0 h, zero-div)
  | no h ↦ rw (get_or-eq_default no_states 0 {n = k / bits_each} (omega arith), zero-div)
]

-- ── one bit put to a value ──
number_same : (w m : ℕ) (x : Bool) → bit_at (number_put w m x) m ≡ x
unfolding number_put
number_same w m true = or_bit w (2 ^ m) m ∙ rw (pow_bit, eq-eqb m m refl) (or-true (bit_at w m))
number_same w m false = xor_bit (bit_or w (2 ^ m)) (2 ^ m) m ∙ rw (or_bit, pow_bit, eq-eqb m m refl, or-true)

number_other : (w m j : ℕ) (x : Bool) → (m ≡ j → ⊥) → bit_at (number_put w m x) j ≡ bit_at w j
unfolding number_put
number_other w m j true h = or_bit w (2 ^ m) j ∙ rw (pow_bit, ne_eqb m j h) (or-false (bit_at w j))
number_other w m j false h = xor_bit (bit_or w (2 ^ m)) (2 ^ m) j ∙ rw (or_bit, pow_bit, ne_eqb m j h, or-false) (same (bit_at w j))
  where
    same : (x : Bool) → exactly_one x false ≡ x
    same true = refl
    same false = refl

pub put_long : (s : List ℕ) (k : ℕ) (x : Bool) → length (put s k x) ≡ length s
unfolding put
put_long s k x = simp length-set

pub put_same : (s : List ℕ) (k : ℕ) (x : Bool) → k / bits_each < length s → has (put s k x) k ≡ x
unfolding put
put_same s k x h = rw get_or-set_same (number_same (get_or s (k / bits_each) 0) (k % bits_each) x)

pub put_other : (s : List ℕ) (k j : ℕ) (x : Bool) → k / bits_each < length s → (j ≡ k → ⊥) → has (put s k x) j ≡ has s j
unfolding put
put_other s k j x h ne = elim (ℕ_discrete (j / bits_each) (k / bits_each)) [
  | yes e ↦
      let ne' : k % bits_each ≡ j % bits_each → ⊥ = omega arith in
      rw (e, get_or-set_same) (number_other (get_or s (k / bits_each) 0) (k % bits_each) (j % bits_each) x ne')
  | no e ↦ rw (get_or-set_other _ _ _ _ _ e)
]

-- what code that puts a bit stores
pub put_on : (s : List ℕ) (k : ℕ) (x : Bool) → x ≡ true → set s (k / bits_each) (bit_or (get_or s (k / bits_each) 0) ((1 * 2 ^ (k % bits_each)) % 2 ^ 64)) ≡ put s k x
unfolding put number_put
put_on s k x e = rw (e, bit_shl)

pub put_off : (s : List ℕ) (k : ℕ) (x : Bool) → x ≡ false →
    set s (k / bits_each) (bit_xor (bit_or (get_or s (k / bits_each) 0) ((1 * 2 ^ (k % bits_each)) % 2 ^ 64)) ((1 * 2 ^ (k % bits_each)) % 2 ^ 64)) ≡ put s k x
unfolding put number_put
put_off s k x e = rw (e, bit_shl)

-- the bits of s are f below i and g from i on: what a loop over the states keeps
pub record Upto (f g : ℕ → Bool) (i : ℕ) (s : List ℕ) : Type 0 where
  pub long : length s ≡ set_width
  pub below : (j : ℕ) → j < i → has s j ≡ f j
  pub above : (j : ℕ) → i ≤ j → j < most_states → has s j ≡ g j

module _ (f g : ℕ → Bool) where
  -- upwards: bit i is f's
  pub upto_up : (i : ℕ) (s : List ℕ) (x : Bool) → Upto f g i s → i < most_states → x ≡ f i → Upto f g (i + 1) (put s i x)
  upto_up i s x u h e = record {
    long = put_long s i x ∙ u.long;
    below = λ j p. elim (ℕ_discrete j i) [
      | yes q ↦ rw q (put_same s i x (rw u.long (omega arith)) ∙ e)
      | no q ↦ put_other s i j x (rw u.long (omega arith)) q ∙ u.below j (omega arith)
    ];
    above = λ j p q. put_other s i j x (rw u.long (omega arith)) (λ r. omega arith) ∙ u.above j (omega arith) q;
  }

  -- downwards: bit i - 1 is g's
  pub upto_down : (i : ℕ) (s : List ℕ) (x : Bool) → Upto f g i s → 0 < i → i ≤ most_states → x ≡ g (i - 1) → Upto f g (i - 1) (put s (i - 1) x)
  upto_down i s x u z h e = record {
    long = put_long s (i - 1) x ∙ u.long;
    below = λ j p. put_other s (i - 1) j x (rw u.long (omega arith)) (λ r. omega arith) ∙ u.below j (omega arith);
    above = λ j p q. elim (ℕ_discrete j (i - 1)) [
      | yes r ↦ rw r (put_same s (i - 1) x (rw u.long (omega arith)) ∙ e)
      | no r ↦ put_other s (i - 1) j x (rw u.long (omega arith)) r ∙ u.above j (omega arith) q
    ];
  }
