-- The value of a text, read from its bytes in place: a law for each way out.
use Rattle.std.specs.Prelude.{ℕ, zero, suc, ◌+◌, ◌*◌, ◌-◌, ◌^◌, ◌<◌, ◌≤◌, ◌≡◌, Bool, not, length, get_or, take, drop, ℤ, pos, neg_ℤ, ◌-ℤ◌}
use Rattle.std.proofs.Common.{le_refl, subst, arith, add-one, ap, ◌∙◌, length-drop, drop-cons, take-suc, take_all, to_z, of_z}
use Rattle.std.proofs.Math.Decide.{dec_le}
use Rattle.std.proofs.Math.Path.{refl, sym}
use mathlib.Core.List.{List, [], ◌∷◌, ◌++◌}
use Rattle.std.proofs.Math.Bool.{true, false}
use Rattle.std.proofs.Math.ListN.{drop_of_length-le}
use Rattle.std.proofs.Math.Seq.{take-length}
use Rattle.std.specs.Int.Signed.{mag}
use Rattle.std.specs.Int.{w32, w64}
use mir.Val.{SFits}
use mir.ValLaws.{to_z-of_z}
use Rattle.std.proofs.lemmas.Int.{ints}
use borrow.Author.Tests.{le-leb, lt-leb, eq-eqb, ne_eqb, not-true, not-false}
use Rattle.lists.specs.Choice.{pick}
use Rattle.rules.specs.Value.{Value, number, no_number, out_of_range, is_space, is_digit, strip_start, strip_before, strip_end}
use Rattle.rules.specs.Value.{lowest, highest, in_range, digits_from, some_digits, whole_number}

-- want is what a cut at r leaves, and r is within the text
pub record Cut (want left : List ℕ) (r size : ℕ) : Type 0 where
  pub is : want ≡ left
  pub within : r ≤ size

-- n with the digit x after it; once past the range, past it for good
pub record Next (n x r : ℕ) : Type 0 where
  pub small : n ≤ lowest → r ≡ n * 10 + (x - 48)
  pub big : lowest < n → lowest < r
  pub bound : r ≤ lowest * 10 + 9

-- an i32 that a call gave, read back from its bits
pub back32 : (z : ℤ) → mag z < 2 ^ 31 → to_z w32 (of_z w32 z) ≡ z
back32 z h = to_z-of_z w32 z (record { sfits = h })

-- ── n with its sign, in range ──
pub signed_minus : (m : Bool) (n : ℕ) → m ≡ true → n < 2 ^ 63 → to_z w64 (of_z w64 (pos 0 -ℤ to_z w64 n)) ≡ pick m (neg_ℤ (pos n)) (pos n)
unfolding pick
signed_minus m n e h = rw e (omega (arith, ints))

pub signed_plain : (m : Bool) (n : ℕ) → m ≡ false → n < 2 ^ 63 → to_z w64 n ≡ pick m (neg_ℤ (pos n)) (pos n)
unfolding pick
signed_plain m n e h = rw e (omega (arith, ints))

pub ruleset signed_laws = (signed_minus, signed_plain)

pub range_below : (m : Bool) (n : ℕ) (z : ℤ) → m ≡ true → n ≤ lowest → z ≡ neg_ℤ (pos n) → number z ≡ in_range m n
unfolding pick
range_below m n z e h d = rw (e, d, le-leb n lowest h)

pub range_too_low : (m : Bool) (n : ℕ) → m ≡ true → lowest < n → out_of_range ≡ in_range m n
unfolding pick
range_too_low m n e h = rw (e, lt-leb n lowest h)

pub range_above : (m : Bool) (n : ℕ) (z : ℤ) → m ≡ false → n ≤ highest → z ≡ pos n → number z ≡ in_range m n
unfolding pick
range_above m n z e h d = rw (e, d, le-leb n highest h)

pub range_too_high : (m : Bool) (n : ℕ) → m ≡ false → highest < n → out_of_range ≡ in_range m n
unfolding pick
range_too_high m n e h = rw (e, lt-leb n highest h)

-- the numbers that are an i32
minus_fits : (n : ℕ) → n ≤ lowest → SFits w32 (neg_ℤ (pos n))
minus_fits zero h = record { sfits = omega arith }
minus_fits (suc n) h = record { sfits = omega arith }

fits_minus : (n : ℕ) → SFits w32 (neg_ℤ (pos n)) → n ≤ lowest
fits_minus zero f = omega arith
fits_minus (suc n) f = let h = f.sfits in omega arith

module _ (n : ℕ) (z : ℤ) where
  range_some : (m : Bool) → z ≡ pick m (neg_ℤ (pos n)) (pos n) → SFits w32 z → number z ≡ in_range m n
  unfolding pick
  range_some true e f = range_below true n z refl (fits_minus n (subst (SFits w32) e f)) e
  range_some false e f = let h = (subst (SFits w32) e f).sfits in range_above false n z refl (omega arith) e

  range_none : (m : Bool) → z ≡ pick m (neg_ℤ (pos n)) (pos n) → (SFits w32 z → ⊥) → out_of_range ≡ in_range m n
  unfolding pick
  range_none true e f = elim (dec_le n lowest) [
    | yes l ↦ absurd (f (subst (SFits w32) (sym e) (minus_fits n l)))
    | no l ↦ range_too_low true n refl (omega arith)
  ]
  range_none false e f = elim (dec_le n highest) [
    | yes l ↦ absurd (f (subst (SFits w32) (sym e) (record { sfits = omega arith })))
    | no l ↦ range_too_high false n refl (omega arith)
  ]

  -- as `i32::try_from` answers of an i64
  module _ (m : Bool) (is : z ≡ pick m (neg_ℤ (pos n)) (pos n)) (bound : mag z < 2 ^ 63) where
    wide : to_z w64 (of_z w64 z) ≡ z
    wide = to_z-of_z w64 z (record { sfits = bound })

    pub range_in : (r : ℤ) → SFits w32 (to_z w64 (of_z w64 z)) → r ≡ to_z w64 (of_z w64 z) → number (to_z w32 (of_z w32 r)) ≡ in_range m n
    range_in r f e =
        let g : SFits w32 z = subst (SFits w32) wide f in
        rw (e ∙ wide, to_z-of_z w32 z g) (range_some m is g)

    pub range_out : (SFits w32 (to_z w64 (of_z w64 z)) → ⊥) → out_of_range ≡ in_range m n
    range_out f = range_none m is (λ g. f (subst (SFits w32) (sym wide) g))

pub ruleset range_laws = (range_in, range_out)

-- `&s[a..]` is lent as the first `length s - a` of what is past a
rest : (s : List ℕ) (a : ℕ) → take (length s - a) (drop a s) ≡ drop a s
rest s a = take_all (length s - a) (drop a s) (rw length-drop (le_refl _))

-- ── stripped at the start ──
start_skip : (x : ℕ) (s : List ℕ) → is_space x ≡ true → strip_start (x ∷ s) ≡ strip_start s
unfolding strip_start
start_skip x s e = rw (e, strip_start)

start_keep : (x : ℕ) (s : List ℕ) → is_space x ≡ false → strip_start (x ∷ s) ≡ x ∷ s
unfolding strip_start
start_keep x s e = rw (e, strip_start)

pub record Starting (s : List ℕ) (i : ℕ) : Type 0 where
  pub within : i ≤ length s
  pub same : strip_start s ≡ strip_start (drop i s)

pub starting_none : (s : List ℕ) → Starting s 0
starting_none s = record { within = omega arith; same = refl }

module _ (s : List ℕ) (i : ℕ) (t : Bool) where
  pub starting_more : Starting s i → i < length s → t ≡ is_space (get_or s i 0) → not t ≡ false → Starting s (i + 1)
  starting_more g h e d = record { within = omega arith; same = g.same ∙ rw (add-one, drop-cons s i 0) (start_skip _ _ (sym e ∙ not-false t d)) }

  pub starting_stop : Starting s i → i < length s → t ≡ is_space (get_or s i 0) → not t ≡ true → Cut (strip_start s) (drop i s) i (length s)
  starting_stop g h e d = record { is = g.same ∙ rw (drop-cons s i 0) (start_keep _ _ (sym e ∙ not-true t d)); within = omega arith }

pub starting_all : (s : List ℕ) (i : ℕ) → Starting s i → length s ≤ i → Cut (strip_start s) (drop i s) i (length s)
unfolding strip_start
starting_all s i g h = record { is = g.same ∙ rw drop_of_length-le; within = g.within }

pub ruleset start_laws = (starting_none, starting_more, starting_stop, starting_all)

-- ── stripped at the end ──
end_skip : (t : List ℕ) (x : ℕ) → is_space x ≡ true → strip_end (t ++ (x ∷ [])) ≡ strip_end t
unfolding strip_end strip_before pick
end_skip [] x e = rw e
end_skip (y ∷ t) x e = ap (strip_before y) (end_skip t x e)

end_keep : (t : List ℕ) (x : ℕ) → is_space x ≡ false → strip_end (t ++ (x ∷ [])) ≡ t ++ (x ∷ [])
unfolding strip_end strip_before pick
end_keep [] x e = rw e
end_keep (y ∷ []) x e = ap (strip_before y) (end_keep [] x e)
end_keep (y ∷ z ∷ t) x e = ap (strip_before y) (end_keep (z ∷ t) x e)

pub record Ending (s : List ℕ) (e : ℕ) : Type 0 where
  pub within : e ≤ length s
  pub same : strip_end s ≡ strip_end (take e s)

pub ending_none : (s : List ℕ) → Ending s (length s)
ending_none s = record { within = omega arith; same = ap strip_end (sym (take-length s)) }

module _ (s : List ℕ) (e : ℕ) (t : Bool) where
  pub ending_more : Ending s e → 0 < e → t ≡ is_space (get_or s (e - 1) 0) → not t ≡ false → Ending s (e - 1)
  ending_more g h d n =
      let k : suc (e - 1) ≡ e = omega arith in
      let p : e - 1 < length s = omega (arith, g.within) in
      record {
        within = omega arith;
        same = g.same ∙ ap (λ (m : ℕ). strip_end (take m s)) (sym k) ∙ rw (take-suc s (e - 1) 0) (end_skip _ _ (sym d ∙ not-false t n));
      }

  pub ending_stop : Ending s e → 0 < e → t ≡ is_space (get_or s (e - 1) 0) → not t ≡ true → Cut (strip_end s) (take e s) e (length s)
  ending_stop g h d n =
      let k : suc (e - 1) ≡ e = omega arith in
      let p : e - 1 < length s = omega (arith, g.within) in
      record {
        is =
            g.same ∙ ap (λ (m : ℕ). strip_end (take m s)) (sym k)
            ∙ rw (take-suc s (e - 1) 0) (end_keep (take (e - 1) s) (get_or s (e - 1) 0) (sym d ∙ not-true t n)) ∙ ap (λ (m : ℕ). take m s) k;
        within = g.within;
      }

pub ending_all : (s : List ℕ) (e : ℕ) → Ending s e → e ≤ 0 → Cut (strip_end s) (take e s) e (length s)
unfolding strip_end
ending_all s e g h = let z : e ≡ 0 = omega arith in record { is = g.same ∙ rw z; within = g.within }

-- the text that is handed on, up to the last byte that is no space
pub end_front : (s : List ℕ) (e : ℕ) (t : Bool) → Ending s e → 0 < e → t ≡ is_space (get_or s (e - 1) 0) → not t ≡ true → take (e - 1 + 1) s ≡ strip_end s
end_front s e t g h d n = let k : e - 1 + 1 ≡ e = omega arith in rw k (sym ((ending_stop s e t g h d n).is))

pub ruleset end_laws = (ending_none, ending_more, ending_all)

-- ── digits ──
digit_yes : (x : ℕ) → 48 ≤ x → x ≤ 57 → is_digit x ≡ true
digit_yes x a b = rw (le-leb 48 x a, le-leb x 57 b)

digit_low : (x : ℕ) → x < 48 → is_digit x ≡ false
digit_low x a = rw (lt-leb 48 x a)

digit_high : (x : ℕ) → 57 < x → is_digit x ≡ false
digit_high x a = rw (le-leb 48 x (omega arith), lt-leb x 57 a)

module _ (m : Bool) where
  one_more : (x : ℕ) (s : List ℕ) (n : ℕ) → is_digit x ≡ true → digits_from m n (x ∷ s) ≡ digits_from m (n * 10 + (x - 48)) s
  unfolding digits_from
  one_more x s n e = rw (e, digits_from)

  no_digit : (x : ℕ) (s : List ℕ) (n : ℕ) → is_digit x ≡ false → digits_from m n (x ∷ s) ≡ no_number
  unfolding digits_from
  no_digit x s n e = rw (e, digits_from)

  -- past the range, the number itself plays no part
  range_big : (a b : ℕ) → lowest < a → lowest < b → in_range m a ≡ in_range m b
  unfolding pick
  range_big a b ha hb = elim m as (λ (k : Bool). in_range k a ≡ in_range k b) [
    | true ↦ rw (lt-leb a lowest ha, lt-leb b lowest hb)
    | false ↦ rw (lt-leb a highest (omega arith), lt-leb b highest (omega arith))
  ]

  digits_big : (s : List ℕ) (a b : ℕ) → lowest < a → lowest < b → digits_from m a s ≡ digits_from m b s
  unfolding digits_from
  digits_big [] a b ha hb = range_big a b ha hb
  digits_big (x ∷ s) a b ha hb = go (is_digit x) refl (digits_big s (a * 10 + (x - 48)) (b * 10 + (x - 48)) (omega arith) (omega arith))
    where
      go : (t : Bool) → is_digit x ≡ t → digits_from m (a * 10 + (x - 48)) s ≡ digits_from m (b * 10 + (x - 48)) s →
          digits_from m a (x ∷ s) ≡ digits_from m b (x ∷ s)
      go true e d = one_more x s a e ∙ d ∙ sym (one_more x s b e)
      go false e d = no_digit x s a e ∙ sym (no_digit x s b e)

  stop : (s : List ℕ) (i n : ℕ) → i < length s → is_digit (get_or s i 0) ≡ false → digits_from m n (drop i s) ≡ no_number
  stop s i n h e = rw (drop-cons s i 0) (no_digit (get_or s i 0) (drop (suc i) s) n e)

  more : (s : List ℕ) (i n r : ℕ) → i < length s → is_digit (get_or s i 0) ≡ true → Next n (get_or s i 0) r →
      digits_from m n (drop i s) ≡ digits_from m r (drop (i + 1) s)
  more s i n r h e q = rw (add-one, drop-cons s i 0)
      (one_more (get_or s i 0) (drop (suc i) s) n e ∙ elim (dec_le n lowest) [
        | yes b ↦ ap (λ k. digits_from m k (drop (suc i) s)) (sym (q.small b))
        | no b ↦ digits_big (drop (suc i) s) (n * 10 + (get_or s i 0 - 48)) r (omega arith) (q.big (omega arith))
      ])

  all : (s : List ℕ) (i n : ℕ) → length s ≤ i → digits_from m n (drop i s) ≡ in_range m n
  unfolding digits_from
  all s i n h = rw drop_of_length-le

-- the digits before place i say n
pub record ReadingDigits (m : Bool) (s : List ℕ) (n i : ℕ) : Type 0 where
  pub within : i ≤ length s
  pub bound : n ≤ lowest * 10 + 9
  pub same : digits_from m 0 s ≡ digits_from m n (drop i s)

pub digits_none : (m : Bool) (s : List ℕ) → ReadingDigits m s 0 0
digits_none m s = record { within = omega arith; bound = omega arith; same = refl }

module _ (m : Bool) (s : List ℕ) (n i : ℕ) where
  pub digits_low : ReadingDigits m s n i → i < length s → get_or s i 0 < 48 → no_number ≡ digits_from m 0 s
  digits_low g h d = sym (g.same ∙ stop m s i n h (digit_low _ d))

  pub digits_high : ReadingDigits m s n i → i < length s → 57 < get_or s i 0 → no_number ≡ digits_from m 0 s
  digits_high g h d = sym (g.same ∙ stop m s i n h (digit_high _ d))

  pub digits_more : (r : ℕ) → ReadingDigits m s n i → i < length s → 48 ≤ get_or s i 0 → get_or s i 0 ≤ 57 → Next n (get_or s i 0) r → ReadingDigits m s r (i + 1)
  digits_more r g h a b q = record { within = omega arith; bound = q.bound; same = g.same ∙ more m s i n r h (digit_yes _ a b) q }

  pub digits_all : (v : Value) → ReadingDigits m s n i → length s ≤ i → v ≡ in_range m n → v ≡ digits_from m 0 s
  digits_all v g h e = e ∙ sym (g.same ∙ all m s i n h)

pub ruleset digit_laws = (digits_none, digits_low, digits_high, digits_more, digits_all)

-- ── the four ways of a text without spaces at its ends ──
pub whole_empty : (s : List ℕ) → length s ≡ 0 → no_number ≡ whole_number s
unfolding whole_number
whole_empty [] h = refl
whole_empty (x ∷ s) h = absurd (omega arith)

pub whole_sign : (s : List ℕ) → length s ≡ 1 → get_or s 0 0 ≡ 45 → no_number ≡ whole_number s
unfolding whole_number some_digits pick
whole_sign [] h e = refl
whole_sign (x ∷ []) h e = rw (eq-eqb x 45 e)
whole_sign (x ∷ y ∷ s) h e = absurd (omega arith)

pub whole_minus : (s : List ℕ) (v : Value) → (length s ≡ 0 → ⊥) → (length s ≡ 1 → ⊥) → get_or s 0 0 ≡ 45 →
    v ≡ digits_from true 0 (take (length s - 1) (drop 1 s)) → v ≡ whole_number s
unfolding whole_number some_digits pick
whole_minus [] v h k e d = absurd (h refl)
whole_minus (x ∷ []) v h k e d = absurd (k refl)
whole_minus (x ∷ y ∷ s) v h k e d = rw (eq-eqb x 45 e) (d ∙ ap (digits_from true 0) (rest (x ∷ y ∷ s) 1))

pub whole_plain : (s : List ℕ) (v : Value) → (length s ≡ 0 → ⊥) → (get_or s 0 0 ≡ 45 → ⊥) → v ≡ digits_from false 0 s → v ≡ whole_number s
unfolding whole_number some_digits pick
whole_plain [] v h e d = absurd (h refl)
whole_plain (x ∷ s) v h e d = rw (ne_eqb x 45 e) d

pub ruleset whole_laws = (whole_empty, whole_sign, whole_minus, whole_plain)
