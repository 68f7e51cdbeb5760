-- The loop that answers a completed set, and: completing a set and answering it work a question out.
use Rattle.std.specs.Prelude.{◌≡◌, refl, Bool, false, ◌&&◌, List, ℕ, ◌+◌, ◌<◌, ◌≤◌, length, get_or, replicate}
use Rattle.std.proofs.Math.Path.{sym}
use Rattle.std.proofs.Common.{◌∙◌, ap, arith, Fits}
use Rattle.std.proofs.Math.Decide.{dec_lt}
use Rattle.std.specs.Int.{w64}
use Rattle.rules.specs.State.{State, TRUE, LEAF, AND, OR, NOT, STEP, fits}
use Rattle.rules.specs.Book.{most_states}
use Rattle.rules.specs.Sets.{set_width, has, set_of, completed, gives_step, work_out}
use Rattle.rules.specs.Leading.{Inside}
use Rattle.rules.proofs.Sets.Laws.{set_of_agree}
use Rattle.rules.specs.OneBit.{put}
use Rattle.book_plan.specs.declared.State as plan
use Rattle.book_plan.specs.Plan.{state_in, state_count, states_in, WellLed}
use Rattle.book_plan.proofs.Laws.{states_long, states_at}
use Rattle.book_plan.proofs.Putting.{Putting, putting_up, plan_inside, no_bit, planned_bit, planned_past, planned_ext}
use Rattle.set_complete.specs.Completing.{completed_set, completed_bit}

-- ── the answer ──
-- the STEP states that a child with the completed set ws and the label x makes match
unfoldable pub answered : List State → List ℕ → ℕ → List ℕ
answered b ws x = set_of b (λ s k. gives_step x (has ws) s)

abbrev pub Answering : List plan.State → List ℕ → ℕ → List ℕ → ℕ → Type 0
Answering p ws x s i = (set_width ≤ length ws) × Putting p (has (answered (states_in p) ws x)) (λ j. false) i s

module _ (p : List plan.State) (ws : List ℕ) (x : ℕ) where
  pub answering_none : (o s : List ℕ) → WellLed p → set_width ≤ length ws → length o ≡ set_width → s ≡ replicate (length o) 0 →
      ((k : ℕ) → Fits w64 (get_or s k 0)) → Answering p ws x s 0
  answering_none o s q v h z w = (
    v,
    record {
      plan = q;
      within = omega arith;
      numbers = w;
      bits = record { long = ap length (z ∙ ap (λ m. replicate m 0) h); below = λ j u. absurd (omega arith); above = λ j u m. no_bit o s j h z m };
    },
  )

  pub answering_more : (s t : List ℕ) (i : ℕ) (a : Bool) → Answering p ws x s i → i < state_count p →
      a ≡ gives_step x (has ws) (state_in p i) →
      t ≡ put s i a → ((k : ℕ) → Fits w64 (get_or t k 0)) → Answering p ws x t (i + 1)
  unfolding answered
  answering_more s t i a c h e f w = (
    c.0,
    putting_up p (has (answered (states_in p) ws x)) (λ j. false) i s t a c.1 h
        (e ∙ sym (planned_bit p c.1.plan (λ s k. gives_step x (has ws) s) i h)) f w,
  )

  pub answering_inside : (s : List ℕ) (i : ℕ) → Answering p ws x s i → i < state_count p →
      Inside (state_in p i) most_states
  answering_inside s i c h = plan_inside p i c.1.plan h

  pub answering_all : (s : List ℕ) (i : ℕ) → Answering p ws x s i → state_count p ≤ i → s ≡ answered (states_in p) ws x
  unfolding answered
  answering_all s i c h =
      planned_ext p c.1.plan (λ s k. gives_step x (has ws) s) s c.1.bits.long c.1.numbers
      (λ j u. elim (dec_lt j i) [
        | yes v ↦ c.1.bits.below j v
        | no v ↦ c.1.bits.above j (omega arith) u ∙ sym (planned_past p c.1.plan (λ s k. gives_step x (has ws) s) j (omega arith) u)
      ])

pub ruleset answer_laws = (answering_none, answering_more, answering_all, answering_inside)

-- ── working out ──
gives_agree : (s : State) (n x : ℕ) (f g : ℕ → Bool) → Inside s n → ((j : ℕ) → j < n → f j ≡ g j) → gives_step x f s ≡ gives_step x g s
gives_agree TRUE n x f g h e = refl
gives_agree (LEAF t) n x f g h e = refl
gives_agree (AND i j) n x f g h e = refl
gives_agree (OR i j) n x f g h e = refl
gives_agree (NOT i) n x f g h e = refl
gives_agree (STEP l s) n x f g h e = ap (λ (t : Bool). fits l x && t) (e s h)

-- completing the asked set and answering it is the definition's working out
pub worked_out : (p : List plan.State) (ws a o : List ℕ) (x : ℕ) → WellLed p → a ≡ completed_set (states_in p) ws → o ≡ answered (states_in p) a x →
    o ≡ work_out (states_in p) (record { states = ws; label = x })
unfolding work_out answered
worked_out p ws a o x q e f =
    let b : List State = states_in p in
    let l : length b ≡ state_count p = states_long p in
    f ∙ set_of_agree b (λ s k. gives_step x (has a) s) (λ s k. gives_step x (completed b ws) s)
    (λ k h. let u : k < state_count p = omega arith in let d : get_or b k TRUE ≡ state_in p k = states_at p k u in
    gives_agree (get_or b k TRUE) most_states x (has a) (completed b ws) (rw d (q.inside k u)) (λ j v. rw e (completed_bit p ws j q v)))
