-- The loop that joins the LEAF states of a value. Where there is none, the set is left as it is.
use Rattle.std.specs.Prelude.{◌≡◌, true, false, ◌||◌, List, length, get_or}
use Rattle.std.proofs.Math.Path.{refl, ap}
use Rattle.std.proofs.Common.{sym, ◌∙◌, arith, Fits}
use Rattle.std.proofs.Math.Bool.{Bool, or-true, or-false}
use Prim.Native.Nat.{ℕ, ◌+◌, ◌<◌, ◌≤◌}
use Rattle.std.proofs.Math.Decide.{dec_lt}
use Rattle.std.specs.Int.{w64}
use Rattle.lists.specs.Choice.{pick}
use Rattle.rules.specs.State.{State}
use Rattle.rules.specs.Value.{Value}
use Rattle.rules.specs.Book.{most_states}
use Rattle.rules.specs.Sets.{set_width, has, either, is_leaf_of, leaves_of}
use Rattle.rules.proofs.Sets.Laws.{set_ext, set_of_fits, either_long, either_fits, has_either}
use Rattle.rules.specs.OneBit.{put}
use Rattle.book_plan.specs.declared.State as plan
use Rattle.book_plan.specs.Plan.{state_in, state_count, states_in, WellLed}
use Rattle.book_plan.proofs.Putting.{Putting, putting_up, putting_skip, planned_bit, planned_past}

module _ (p : List plan.State) (q : WellLed p) (v : Value) (ws : List ℕ) where
  joined_bit : (j : ℕ) → j < state_count p → has (either ws (leaves_of (states_in p) v)) j ≡ has ws j || is_leaf_of v (state_in p j)
  unfolding leaves_of
  joined_bit j h = has_either ws (leaves_of (states_in p) v) j (omega (arith, q.few)) ∙ ap (λ (t : Bool). has ws j || t) (planned_bit p q (λ s k. is_leaf_of v s) j h)

  joined_past : (j : ℕ) → state_count p ≤ j → j < most_states → has (either ws (leaves_of (states_in p) v)) j ≡ has ws j
  unfolding leaves_of
  joined_past j h u =
      has_either ws (leaves_of (states_in p) v) j u ∙ ap (λ (t : Bool). has ws j || t) (planned_past p q (λ s k. is_leaf_of v s) j h u) ∙ or-false (has ws j)

  joined_ext : (s : List ℕ) → length s ≡ set_width → ((k : ℕ) → Fits w64 (get_or ws k 0)) → ((k : ℕ) → Fits w64 (get_or s k 0)) →
      ((j : ℕ) → j < most_states → has s j ≡ has (either ws (leaves_of (states_in p) v)) j) → s ≡ either ws (leaves_of (states_in p) v)
  unfolding leaves_of
  joined_ext s l u w e =
      set_ext s (either ws (leaves_of (states_in p) v)) l (either_long ws (leaves_of (states_in p) v)) (λ i. (w i).fits)
      (either_fits ws (leaves_of (states_in p) v) (λ i. (u i).fits) (set_of_fits (states_in p) (λ s k. is_leaf_of v s))) e

-- state k of a set joined, where it is a LEAF that the value makes match
unfoldable pub leaf_joined : State → Value → ℕ → List ℕ → List ℕ
leaf_joined s v k set = pick (is_leaf_of v s) (put set k true) set

pub joins_leaf : (s : State) (v : Value) (k : ℕ) (set t : List ℕ) (x : Bool) → x ≡ is_leaf_of v s → x ≡ true → t ≡ put set k true → t ≡ leaf_joined s v k set
unfolding leaf_joined pick
joins_leaf s v k set t x e g f = f ∙ rw (← e, g) refl

pub joins_none : (s : State) (v : Value) (k : ℕ) (set : List ℕ) (x : Bool) → x ≡ is_leaf_of v s → x ≡ false → set ≡ leaf_joined s v k set
unfolding leaf_joined pick
joins_none s v k set x e g = rw (← e, g) refl

-- ws is what was lent, s what it is
abbrev pub Leafing : List plan.State → Value → List ℕ → List ℕ → ℕ → Type 0
Leafing p v ws s i = ((k : ℕ) → Fits w64 (get_or ws k 0)) × Putting p (has (either ws (leaves_of (states_in p) v))) (has ws) i s

module _ (p : List plan.State) (v : Value) (ws : List ℕ) where
  pub leafing_none : WellLed p → length ws ≡ set_width → ((k : ℕ) → Fits w64 (get_or ws k 0)) → Leafing p v ws ws 0
  leafing_none q h w = (w, record { plan = q; within = omega arith; numbers = w; bits = record { long = h; below = λ j u. absurd (omega arith); above = λ j u m. refl } })

  pub leafing_more : (s t : List ℕ) (i : ℕ) → Leafing p v ws s i → i < state_count p →
      t ≡ leaf_joined (state_in p i) v i s →
      ((k : ℕ) → Fits w64 (get_or t k 0)) → Leafing p v ws t (i + 1)
  unfolding leaf_joined pick
  leafing_more s t i c h e w =
      let st : State = state_in p i in
      let is : has (either ws (leaves_of (states_in p) v)) i ≡ has ws i || is_leaf_of v st = joined_bit p c.1.plan v ws i h in
      let f : t ≡ pick (is_leaf_of v st) (put s i true) s = e in
      (c.0, go (is_leaf_of v st) refl is f)
    where
      all : ℕ → Bool
      all = has (either ws (leaves_of (states_in p) v))

      go : (x : Bool) → is_leaf_of v (state_in p i) ≡ x → all i ≡ has ws i || is_leaf_of v (state_in p i) →
          t ≡ pick (is_leaf_of v (state_in p i)) (put s i true) s → Putting p all (has ws) (i + 1) t
      go true x is f = putting_up p all (has ws) i s t true c.1 h (sym (is ∙ ap (λ (y : Bool). has ws i || y) x ∙ or-true (has ws i))) (rw x at f) w
      go false x is f =
          let same : t ≡ s = rw x at f in
          rw same (putting_skip p all (has ws) i s c.1 h (sym (is ∙ ap (λ (y : Bool). has ws i || y) x ∙ or-false (has ws i))))

  pub leafing_all : (s : List ℕ) (i : ℕ) → Leafing p v ws s i → state_count p ≤ i → s ≡ either ws (leaves_of (states_in p) v)
  leafing_all s i c h =
      joined_ext p c.1.plan v ws s c.1.bits.long c.0 c.1.numbers (λ j u. elim (dec_lt j i) [
        | yes m ↦ c.1.bits.below j m
        | no m ↦ c.1.bits.above j (omega arith) u ∙ sym (joined_past p c.1.plan v ws j (omega arith) u)
      ])

pub ruleset leaves_laws = (leafing_none, leafing_more, leafing_all)
