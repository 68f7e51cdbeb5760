-- A loop over the states of a plan that puts one bit a turn into a set, upwards or downwards.
use Rattle.std.specs.Prelude.{◌≡◌, Bool, false, List, ℕ, ◌+◌, ◌-◌, ◌/◌, ◌<◌, ◌≤◌, length, get_or, replicate}
use Rattle.std.proofs.Common.{◌∙◌, ap, arith, Fits}
use Rattle.std.proofs.Math.Nat.{zero-div}
use Rattle.std.proofs.Math.Decide.{ℕ_discrete}
use Rattle.std.proofs.lemmas.List.{get_or-replicate}
use Rattle.std.proofs.Math.ListN.{get_or-eq_default}
use Rattle.std.specs.Int.{w64}
use Rattle.rules.specs.State.{State}
use Rattle.rules.specs.Book.{most_states}
use Rattle.rules.specs.Sets.{set_width, bits_each, has, set_of}
use Rattle.rules.specs.Leading.{Inside}
use Rattle.rules.proofs.Sets.Laws.{Upto, upto_up, upto_down, set_ext, set_of_long, set_of_fits, has_set_of, has_past}
use Rattle.rules.specs.OneBit.{put}
use Rattle.book_plan.specs.declared.State as plan
use Rattle.book_plan.specs.Plan.{state_in, state_count, states_in, WellLed}
use Rattle.book_plan.proofs.Laws.{states_long, states_at}

-- the bits of s are f below i and g from i on
pub record Putting (p : List plan.State) (f g : ℕ → Bool) (i : ℕ) (s : List ℕ) : Type 0 where
  pub plan : WellLed p
  pub within : i ≤ state_count p
  pub numbers : (k : ℕ) → Fits w64 (get_or s k 0)
  pub bits : Upto f g i s

module _ (p : List plan.State) (f g : ℕ → Bool) (i : ℕ) (s t : List ℕ) (x : Bool) where
  pub putting_up : Putting p f g i s → i < state_count p → x ≡ f i → t ≡ put s i x → ((k : ℕ) → Fits w64 (get_or t k 0)) → Putting p f g (i + 1) t
  putting_up c h e z w = record { plan = c.plan; within = omega arith; numbers = w; bits = rw z (upto_up f g i s x c.bits (omega (arith, c.plan.few)) e) }

  pub putting_down : Putting p f g i s → 0 < i → x ≡ g (i - 1) → t ≡ put s (i - 1) x → ((k : ℕ) → Fits w64 (get_or t k 0)) → Putting p f g (i - 1) t
  putting_down c h e z w = record {
    plan = c.plan;
    within = omega (arith, c.within);
    numbers = w;
    bits = rw z (upto_down f g i s x c.bits h (omega (arith, c.within, c.plan.few)) e);
  }

-- upwards, where bit i is right as it stands
pub putting_skip : (p : List plan.State) (f g : ℕ → Bool) (i : ℕ) (s : List ℕ) → Putting p f g i s → i < state_count p → g i ≡ f i → Putting p f g (i + 1) s
putting_skip p f g i s c h e = record {
  plan = c.plan;
  within = omega arith;
  numbers = c.numbers;
  bits = record {
    long = c.bits.long;
    below = λ j u. elim (ℕ_discrete j i) [
      | yes d ↦ rw d (c.bits.above i (omega arith) (omega (arith, c.plan.few)) ∙ e)
      | no d ↦ c.bits.below j (omega arith)
    ];
    above = λ j u m. c.bits.above j (omega arith) m;
  };
}

-- a cleared set has no bit
pub no_bit : (o s : List ℕ) (j : ℕ) → length o ≡ set_width → s ≡ replicate (length o) 0 → j < most_states → has s j ≡ false
no_bit o s j l e h = rw (e, l, get_or-replicate {A = ℕ} set_width (j / bits_each) 0 0 (omega arith), zero-div)

-- nor has a set one past its eight numbers
pub far_bit : (s : List ℕ) (j : ℕ) → length s ≡ set_width → most_states ≤ j → has s j ≡ false
far_bit s j l h = rw (get_or-eq_default s 0 {n = j / bits_each} (omega arith), zero-div)

pub plan_inside : (p : List plan.State) (k : ℕ) → WellLed p → k < state_count p → Inside (state_in p k) most_states
plan_inside p k q h = q.inside k h

-- the set of the plan's states that pass a test: its bits, and what has them is it
module _ (p : List plan.State) (q : WellLed p) (f : State → ℕ → Bool) where
  pub planned_bit : (k : ℕ) → k < state_count p → has (set_of (states_in p) f) k ≡ f (state_in p k) k
  planned_bit k h =
      let l : length (states_in p) ≡ state_count p = states_long p in
      has_set_of (states_in p) f k (omega arith) (omega (arith, q.few)) ∙ ap (λ (s : State). f s k) (states_at p k h)

  pub planned_past : (k : ℕ) → state_count p ≤ k → k < most_states → has (set_of (states_in p) f) k ≡ false
  planned_past k h u = let l : length (states_in p) ≡ state_count p = states_long p in has_past (states_in p) f k (omega arith) u

  pub planned_ext : (s : List ℕ) → length s ≡ set_width → ((k : ℕ) → Fits w64 (get_or s k 0)) →
      ((k : ℕ) → k < most_states → has s k ≡ has (set_of (states_in p) f) k) → s ≡ set_of (states_in p) f
  planned_ext s l w e = set_ext s (set_of (states_in p) f) l (set_of_long (states_in p) f) (λ i. (w i).fits) (set_of_fits (states_in p) f) e
