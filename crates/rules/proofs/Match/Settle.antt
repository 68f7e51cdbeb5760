-- Laws of settling states one after the other: what a state says, read off.
use Rattle.std.specs.Prelude.{◌≡◌, Bool, true, false, ◌||◌, ◌&&◌, not, eqb, length, get_or}
use Rattle.std.proofs.Math.Path.{refl, sym, fun_ext}
use Rattle.std.proofs.Common.{◌∙◌, ap, ap₂, zero-add, not-suc-le-zero, eq-eqb, ne_eqb}
use mathlib.Core.List.{List, [], ◌∷◌}
use Prim.Native.Nat.{ℕ, zero, suc, ◌+◌, ◌<◌, ◌≤◌}
use Rattle.std.proofs.Math.Nat.{add-zero}
use native.Mathlib.Omega.{arith}
use Rattle.rules.specs.Leading.{Higher, Inside}
use Rattle.rules.specs.State.{State, TRUE, LEAF, AND, OR, NOT, STEP}
use Rattle.rules.specs.Value.{Value}
use Rattle.rules.specs.Match.{says, settle}
use Rattle.rules.specs.Sets.{has, completes, completed}

-- every state of b leads as the paper says
pub record Fine (b : List State) : Type 0 where
  pub higher : (k : ℕ) → k < length b → Higher (get_or b k TRUE) k
  pub inside : (k : ℕ) → k < length b → Inside (get_or b k TRUE) (length b)

module _ (say : State → ℕ → (ℕ → Bool) → Bool) where
  -- what state s, number k, says rests on the states above it alone
  abbrev pub RestsAbove : State → ℕ → Type 0
  RestsAbove s k = (f g : ℕ → Bool) → ((i : ℕ) → k < i → f i ≡ g i) → say s k f ≡ say s k g

  settle_skip : (s : State) (ss : List State) (k i : ℕ) → k < i → settle say ss (suc k) i ≡ settle say (s ∷ ss) k i
  unfolding settle
  settle_skip s ss k i h = rw (ne_eqb i k (λ e. omega arith), settle)

  settle_from : (b : List State) (k j : ℕ) → j < length b → RestsAbove (get_or b j TRUE) (k + j) →
      settle say b k (k + j) ≡ say (get_or b j TRUE) (k + j) (settle say b k)
  unfolding settle
  settle_from [] k j h u = absurd (not-suc-le-zero h)
  settle_from (s ∷ ss) k zero h u =
      rw (eq-eqb (k + 0) k (omega arith), settle, add-zero)
      ((rw add-zero at u) (settle say ss (suc k)) (settle say (s ∷ ss) k) (λ i p. settle_skip s ss k i p))
  settle_from (s ∷ ss) k (suc j) h u =
      let e : suc k + j ≡ k + suc j = omega arith in
      sym (settle_skip s ss k (k + suc j) (omega arith))
      ∙ rw e at (settle_from ss (suc k) j (omega arith) (rw e u))
      ∙ u (settle say ss (suc k)) (settle say (s ∷ ss) k) (λ i p. settle_skip s ss k i (omega arith))

  -- a state of the whole list says what `say` makes of it and of the others
  pub settle_law : (b : List State) (j : ℕ) → j < length b → RestsAbove (get_or b j TRUE) j →
      settle say b 0 j ≡ say (get_or b j TRUE) j (settle say b 0)
  settle_law b j h u = rw zero-add at (settle_from b 0 j h (rw zero-add u))

  -- past the states nothing matches
  settle_none : (b : List State) (k j : ℕ) → k + length b ≤ j → settle say b k j ≡ false
  unfolding settle
  settle_none [] k j h = refl
  settle_none (s ∷ ss) k j h = rw (ne_eqb j k (λ e. omega arith), settle) (settle_none ss (suc k) j (omega arith))

  pub settle_past : (b : List State) (j : ℕ) → length b ≤ j → settle say b 0 j ≡ false
  settle_past b j h = settle_none b 0 j (omega arith)

-- two ways of saying that agree at every state settle alike
pub settle_agree : (f g : State → ℕ → (ℕ → Bool) → Bool) (b : List State) (k j : ℕ) →
    ((i : ℕ) → i < length b → (here : ℕ → Bool) → f (get_or b i TRUE) (k + i) here ≡ g (get_or b i TRUE) (k + i) here) →
    settle f b k j ≡ settle g b k j
unfolding settle
settle_agree f g [] k j e = refl
settle_agree f g (s ∷ ss) k j e =
    let rest : (i : ℕ) → settle f ss (suc k) i ≡ settle g ss (suc k) i
    = λ i. settle_agree f g ss (suc k) i (λ n h here. let d : k + suc n ≡ suc k + n = omega arith in rw d at (e (suc n) (omega arith) here)) in
    ap₂ (λ x y. elim (eqb j k) [ true ↦ x | false ↦ y ])
    ((rw add-zero at (e 0 (omega arith) (settle f ss (suc k)))) ∙ ap (g s k) (fun_ext rest))
    (rest j)

-- ── the two ways of saying: by the match rule, and by a set that is completed ──
pub says_rests : (v : Value) (child : ℕ → ℕ → Bool) (s : State) (k : ℕ) → Higher s k → RestsAbove (λ a n here. says a v child here) s k
says_rests v child TRUE k h f g e = refl
says_rests v child (LEAF t) k h f g e = refl
says_rests v child (AND i j) k h f g e = ap₂ ◌&&◌ (e i h.0) (e j h.1)
says_rests v child (OR i j) k h f g e = ap₂ ◌||◌ (e i h.0) (e j h.1)
says_rests v child (NOT i) k h f g e = ap not (e i h)
says_rests v child (STEP l s) k h f g e = refl

pub completes_rests : (ws : List ℕ) (s : State) (k : ℕ) → Higher s k → RestsAbove (λ a n here. completes a (has ws n) here) s k
completes_rests ws TRUE k h f g e = refl
completes_rests ws (LEAF t) k h f g e = refl
completes_rests ws (AND i j) k h f g e = ap₂ ◌&&◌ (e i h.0) (e j h.1)
completes_rests ws (OR i j) k h f g e = ap₂ ◌||◌ (e i h.0) (e j h.1)
completes_rests ws (NOT i) k h f g e = ap not (e i h)
completes_rests ws (STEP l s) k h f g e = refl

-- the completed set, state by state
pub completed_law : (b : List State) (ws : List ℕ) (j : ℕ) → j < length b → Higher (get_or b j TRUE) j →
    completed b ws j ≡ completes (get_or b j TRUE) (has ws j) (completed b ws)
unfolding completed
completed_law b ws j h u = settle_law (λ a n here. completes a (has ws n) here) b j h (completes_rests ws (get_or b j TRUE) j u)

pub completed_past : (b : List State) (ws : List ℕ) (j : ℕ) → length b ≤ j → completed b ws j ≡ false
unfolding completed
completed_past b ws j h = settle_past (λ a n here. completes a (has ws n) here) b j h
