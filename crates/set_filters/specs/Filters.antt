-- The filters read off a set, one a turn.
use Rattle.std.specs.Prelude.{◌≡◌, refl, true, false, List, length}
use Rattle.std.proofs.Common.{◌∙◌, add-one, arith, shl_exact}
use Rattle.std.proofs.Math.Path.{ap}
use Rattle.std.proofs.Math.Bool.{Bool}
use Prim.Native.Nat.{ℕ, zero, suc, ◌+◌, ◌*◌, ◌%◌, ◌^◌, ◌<◌, ◌≤◌}
use Rattle.std.proofs.Math.Decide.{dec_lt}
use Rattle.std.proofs.Math.Pow.{pow-lt}
use Rattle.lists.specs.Below.{bit, flags}
use Rattle.lists.specs.Below.Laws.{flags_lt}
use Rattle.rules.specs.State.{State}
use Rattle.rules.specs.Book.{most_filters, most_states, filter_count, body_size, states_before, book_refusal, states_of}
use Rattle.rules.specs.Match.{filters_where}
use Rattle.rules.specs.Sets.{set_width, has, completed}
use Rattle.book_plan.specs.declared.State as plan
use Rattle.book_plan.specs.Plan.{states_in, PlanOf}
use Rattle.book_plan.proofs.Laws.{planned_leads}
use Rattle.book_contents.specs.BookAccepted.{accepted, states_rise}
use Rattle.set_complete.specs.Completing.{completed_set, completed_bit}

-- ── one flag ──
pub flag_on : (b : Bool) (k : ℕ) → b ≡ true → k < most_filters → (1 * 2 ^ k) % 2 ^ 64 ≡ bit b * 2 ^ k
flag_on b k e h = rw e (shl_exact 1 k 64 (omega arith) (omega arith))

pub flag_off : (b : Bool) (k : ℕ) → b ≡ false → 0 ≡ bit b * 2 ^ k
flag_off b k e = rw e (omega arith)

pub ruleset flag_laws = (flag_on, flag_off)

-- ── the flags of the first k filters ──
pow_most : (k : ℕ) → k ≤ most_filters → 2 ^ k ≤ 2 ^ 64
pow_most k h = elim (dec_lt k most_filters) [ yes l ↦ omega (arith, pow-lt {i = k} {j = 64} l) | no l ↦ let e : k ≡ most_filters = omega arith in rw e (omega arith) ]

-- the filters before filter k are read; its state 0 is number first
pub record Rooting (b s : List ℕ) (f r first k : ℕ) : Type 0 where
  pub ok : book_refusal b ≡ 0
  pub long : set_width ≤ length s
  pub count : f ≡ filter_count b
  pub within : k ≤ f
  pub next : first ≡ states_before b k
  pub read : r ≡ flags (λ i. has s (states_before b i)) k

pub rooting_none : (b s : List ℕ) (f : ℕ) → book_refusal b ≡ 0 → set_width ≤ length s → f ≡ filter_count b → Rooting b s f 0 0 0
unfolding flags states_before
rooting_none b s f a h e = record { ok = a; long = h; count = e; within = omega arith; next = refl; read = refl }

module _ (b s : List ℕ) (f r first k : ℕ) where
  pub rooting_state : Rooting b s f r first k → k < f → first < most_states
  rooting_state g h =
      let l : k < filter_count b = omega (arith, g.count) in
      let a = accepted b g.ok in
      omega (arith, g.next, a.some k l, a.states, states_rise b k (filter_count b) l)

  pub rooting_few : Rooting b s f r first k → k < f → k < most_filters
  rooting_few g h = let a = accepted b g.ok in omega (arith, g.count, a.few)

  pub rooting_fits : (x : Bool) (m : ℕ) → Rooting b s f r first k → k < f → x ≡ has s first → m ≡ bit x * 2 ^ k → r + m < 2 ^ 64
  unfolding flags
  rooting_fits x m g h e d =
      let t : ℕ → Bool = λ i. has s (states_before b i) in
      let u : x ≡ has s (states_before b k) = e ∙ ap (has s) g.next in
      let w : r + m ≡ flags t (suc k) = rw (g.read, d, u) in
      omega (arith, w, flags_lt t (suc k), pow_most (suc k) (omega (arith, g.count, (accepted b g.ok).few)))

  pub rooting_passes : (z : ℕ) → Rooting b s f r first k → k < f → z < 65536 → first + z < 2 ^ 64
  rooting_passes z g h e = omega (arith, rooting_state g h)

  pub rooting_more : (x : Bool) (m z : ℕ) → Rooting b s f r first k → k < f → x ≡ has s first → m ≡ bit x * 2 ^ k → z ≡ body_size b k →
      Rooting b s f (r + m) (first + z) (k + 1)
  unfolding flags states_before
  rooting_more x m z g h e d c =
      let u : x ≡ has s (states_before b k) = e ∙ ap (has s) g.next in
      record {
        ok = g.ok;
        long = g.long;
        count = g.count;
        within = omega arith;
        next = rw (add-one, g.next, c);
        read = rw (add-one, g.read, d, u);
      }

  pub rooting_all : Rooting b s f r first k → f ≤ k → r ≡ filters_where b (has s)
  unfolding filters_where
  rooting_all g h = g.read ∙ ap (flags (λ i. has s (states_before b i))) (omega (arith, g.count, g.within))

pub ruleset root_laws = (rooting_none, rooting_state, rooting_few, rooting_fits, rooting_passes, rooting_all)

-- ── the set that is read is the completed one ──
flags_agree : (f g : ℕ → Bool) (k : ℕ) → ((i : ℕ) → i < k → f i ≡ g i) → flags f k ≡ flags g k
unfolding flags
flags_agree f g zero e = refl
flags_agree f g (suc k) e = rw (flags_agree f g k (λ i h. e i (omega arith)), e k (omega arith))

pub reads_completed : (p : List plan.State) (b ws s : List ℕ) (r : ℕ) → PlanOf p b → book_refusal b ≡ 0 → s ≡ completed_set (states_in p) ws → r ≡ filters_where b (has s) →
    r ≡ filters_where b (completed (states_of b) ws)
unfolding filters_where
reads_completed p b ws s r q ok e d =
    let a = accepted b ok in
    d ∙ flags_agree (λ i. has s (states_before b i)) (λ i. completed (states_of b) ws (states_before b i)) (filter_count b)
    (λ i h.
    let l : states_before b i < most_states = omega (arith, a.some i h, a.states, states_rise b i (filter_count b) h) in
    rw e (completed_bit p ws (states_before b i) (planned_leads p q.planned) l) ∙ ap (λ (c : List State). completed c ws (states_before b i)) q.states)
