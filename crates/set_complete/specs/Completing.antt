-- The completed set as eight numbers, and the loop that completes a set into another, from the last state down.
use Rattle.std.specs.Prelude.{◌≡◌, Bool, false, List, get_or}
use Rattle.std.proofs.Math.Path.{sym, ap}
use Rattle.std.proofs.Common.{◌∙◌, Fits}
use Prim.Native.Nat.{ℕ, suc, ◌-◌, ◌<◌, ◌≤◌}
use native.Mathlib.Omega.{arith}
use Rattle.std.proofs.Math.Decide.{dec_lt}
use Rattle.std.proofs.Math.ListN.{length, replicate}
use Rattle.std.specs.Int.{w64}
use Rattle.rules.specs.State.{State, TRUE}
use Rattle.rules.specs.Book.{most_states}
use Rattle.rules.specs.Sets.{set_width, has, set_of, completes, completed}
use Rattle.rules.proofs.Match.Settle.{completes_rests, completed_law, completed_past}
use Rattle.rules.specs.Leading.{Inside}
use Rattle.rules.proofs.Sets.Laws.{Upto}
use Rattle.rules.specs.OneBit.{put}
use Rattle.book_plan.specs.declared.State as plan
use Rattle.book_plan.specs.Plan.{state_in, state_count, states_in, WellLed}
use Rattle.book_plan.proofs.Laws.{states_long, states_at}
use Rattle.book_plan.proofs.Putting.{Putting, putting_down, plan_inside, no_bit, far_bit, planned_bit, planned_past, planned_ext}

-- the completed set as eight numbers
unfoldable pub completed_set : List State → List ℕ → List ℕ
completed_set b ws = set_of b (λ s k. completed b ws k)

pub completed_bit : (p : List plan.State) (ws : List ℕ) (j : ℕ) → WellLed p → j < most_states →
    has (completed_set (states_in p) ws) j ≡ completed (states_in p) ws j
unfolding completed_set
completed_bit p ws j q h = elim (dec_lt j (state_count p)) [
  | yes v ↦ planned_bit p q (λ s k. completed (states_in p) ws k) j v
  | no v ↦ let l : length (states_in p) ≡ state_count p = states_long p in
      planned_past p q (λ s k. completed (states_in p) ws k) j (omega arith) h ∙ sym (completed_past (states_in p) ws j (omega arith))
]

abbrev pub Completing : List plan.State → List ℕ → List ℕ → ℕ → Type 0
Completing p ws s i = (set_width ≤ length ws) × Putting p (λ j. false) (has (completed_set (states_in p) ws)) i s

module _ (p : List plan.State) (ws : List ℕ) where
  pub completing_none : (o s : List ℕ) → WellLed p → set_width ≤ length ws → length o ≡ set_width → s ≡ replicate (length o) 0 →
      ((k : ℕ) → Fits w64 (get_or s k 0)) → Completing p ws s (state_count p)
  unfolding completed_set
  completing_none o s q v h z w = (
    v,
    record {
      plan = q;
      within = omega arith;
      numbers = w;
      bits = record {
        long = ap length (z ∙ ap (λ m. replicate m 0) h);
        below = λ j u. no_bit o s j h z (omega (arith, q.few));
        above = λ j u m. no_bit o s j h z m ∙ sym (planned_past p q (λ a k. completed (states_in p) ws k) j u m);
      };
    },
  )

  -- one state's bit from the bits above it
  turn : (s : List ℕ) (k : ℕ) → WellLed p → k < state_count p → Upto (λ j. false) (has (completed_set (states_in p) ws)) (suc k) s →
      completes (state_in p k) (has ws k) (has s) ≡ has (completed_set (states_in p) ws) k
  turn s k q h u =
      let b : List State = states_in p in
      let l : length b ≡ state_count p = states_long p in
      let e : get_or b k TRUE ≡ state_in p k = states_at p k h in
      let above : (i : ℕ) → k < i → has s i ≡ completed b ws i = λ i v. elim (dec_lt i most_states) [
        | yes m ↦ u.above i v m ∙ completed_bit p ws i q m
        | no m ↦ far_bit s i u.long (omega arith) ∙ sym (completed_past b ws i (omega (arith, q.few)))
      ] in
      completes_rests ws (state_in p k) k (q.higher k h) (has s) (completed b ws) above
      ∙ sym (completed_bit p ws k q (omega (arith, q.few)) ∙ rw e at (completed_law b ws k (omega arith) (rw e (q.higher k h))))

  pub completing_more : (s t : List ℕ) (i : ℕ) (x : Bool) → Completing p ws s i → 0 < i →
      x ≡ completes (state_in p (i - 1)) (has ws (i - 1)) (has s) →
      t ≡ put s (i - 1) x → ((k : ℕ) → Fits w64 (get_or t k 0)) → Completing p ws t (i - 1)
  completing_more s t i x c h e f w =
      let z : suc (i - 1) ≡ i = omega arith in (
        c.0,
        putting_down p (λ j. false) (has (completed_set (states_in p) ws)) i s t x c.1 h
            (e ∙ turn s (i - 1) c.1.plan (omega (arith, c.1.within)) (rw z c.1.bits)) f w,
      )

  pub completing_inside : (s : List ℕ) (i : ℕ) → Completing p ws s i → 0 < i →
      Inside (state_in p (i - 1)) most_states
  completing_inside s i c h = plan_inside p (i - 1) c.1.plan (omega (arith, c.1.within))

  pub completing_all : (s : List ℕ) (i : ℕ) → Completing p ws s i → i ≤ 0 → s ≡ completed_set (states_in p) ws
  unfolding completed_set
  completing_all s i c h =
      planned_ext p c.1.plan (λ a k. completed (states_in p) ws k) s c.1.bits.long c.1.numbers (λ j u. c.1.bits.above j (omega arith) u)

pub ruleset complete_laws = (completing_none, completing_more, completing_all, completing_inside)
