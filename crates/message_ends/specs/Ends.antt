-- What an end makes of the levels and the memory, and a law for each way out of its code.
use Rattle.std.specs.Prelude.{◌≡◌, true, false, ◌||◌, not, List, ℕ, zero, suc, ◌-◌, ◌<◌, eqb}
use Rattle.std.proofs.Math.Path.{sym}
use Rattle.std.proofs.Common.{◌∙◌, ap}
use native.Mathlib.Omega.{arith}
use Rattle.lists.specs.Checks.{first_of}
use Rattle.lists.specs.Checks.Laws.{first_fails, first_passes, first_end}
use Rattle.rules.specs.State.{State}
use Rattle.rules.specs.Message.{end_refusal}
use Rattle.rules.specs.Memory.{key_of, question_in}
use Rattle.rules.specs.Pass.{Carried, ask_next}
use Rattle.message_levels.specs.Level.{HasLevel, label_in, asks_at, joined_at}
use Rattle.message_levels.specs.Laws.{question_is}

-- ── the refusal ──
module _ (d label x : ℕ) where
  pub end_astray : (ws : List ℕ) → label ≡ label_in ws d → eqb d 0 || not (eqb x label) ≡ true → 28 ≡ end_refusal d (label_in ws d) x
  unfolding end_refusal
  end_astray ws is e = sym (first_fails 28 _ _ (rw is at e))

  pub end_own : (ws : List ℕ) → label ≡ label_in ws d → eqb d 0 || not (eqb x label) ≡ false → 0 ≡ end_refusal d (label_in ws d) x
  unfolding end_refusal
  end_own ws is e = sym (first_passes 28 _ _ (rw is at e) ∙ first_end)

  -- where an end is allowed, there is a level under its own
  pub end_inside : (e : ℕ) → e ≡ end_refusal d label x → e ≡ 0 → 0 < d
  end_inside e told z = go d (sym told ∙ z)
    where
      go : (n : ℕ) → end_refusal n label x ≡ 0 → 0 < n
      go zero k = unfold end_refusal first_of in absurd (omega (arith, k))
      go (suc n) k = omega arith

pub ruleset refusal_laws = (end_astray, end_own)

-- ── the question ──
-- the question of level d is asked, and its answer joined to the level under it
unfoldable pub close_of : List State → List ℕ → ℕ → Carried → List ℕ × Carried
close_of b ws d c = let a : List ℕ × Carried = ask_next b (asks_at ws d) c in (joined_at ws (d - 1) a.0, a.1)

pub close_is : (b : List State) (ws w a q : List ℕ) (d : ℕ) (c r : Carried) → HasLevel ws d → q ≡ key_of (asks_at ws d) → (a, r) ≡ ask_next b (question_in q) c → w ≡ joined_at ws (d - 1) a → (w, r) ≡ close_of b ws d c
unfolding close_of
close_is b ws w a q d c r has k e f = rw f (ap (λ (y : List ℕ × Carried). (joined_at ws (d - 1) y.0, y.1)) (rw (k, question_is ws d has) at e))
