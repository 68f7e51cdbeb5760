-- What a text makes of its level, and a law for each way out of its code.
use Rattle.std.specs.Prelude.{◌≡◌, refl, true, ◌||◌, not, List, ℕ, zero, suc, eqb}
use Rattle.std.proofs.Common.{sym, ◌∙◌}
use Rattle.std.proofs.Math.Path.{ap}
use Rattle.std.proofs.Math.Bool.{false}
use Rattle.lists.specs.Checks.Laws.{first_fails, first_passes, first_end}
use Rattle.rules.specs.Book.{Meaning, out_of_range}
use Rattle.rules.specs.Message.{text_refusal}
use Rattle.rules.specs.Sets.{leaves_of}
use Rattle.number_text.specs.Meant.{meant}
use Rattle.number_text.specs.declared.Value.{Value as Said}
use Rattle.number_text.specs.declared.Value.TheVariants.{Number, NoNumber, OutOfRange}
use Rattle.message_levels.specs.Level.{stage_in, staged_at, joined_at}

-- the workspace after a text at level d, by its refusal: as it was, or the LEAF states of the text's value joined
unfoldable pub held_at : ℕ → Meaning → List ℕ → List ℕ → ℕ → List ℕ
held_at zero b text ws d = staged_at (joined_at ws d (leaves_of b.states (b.reads text))) d 2
held_at (suc e) b text ws d = ws

-- a text at level d: its refusal, and what it makes of the workspace
unfoldable pub held_by : Meaning → List ℕ → List ℕ → ℕ → ℕ × List ℕ
held_by b text ws d = let e : ℕ = text_refusal d (stage_in ws d) (out_of_range b text) in (e, held_at e b text ws d)

module _ (b : Meaning) (text ws : List ℕ) (d : ℕ) where
  by_refusal : (e : ℕ) → e ≡ text_refusal d (stage_in ws d) (out_of_range b text) → (e, held_at e b text ws d) ≡ held_by b text ws d
  unfolding held_by
  by_refusal e h = ap (λ (n : ℕ). (n, held_at n b text ws d)) h

  module _ (stage : ℕ) (is : stage ≡ stage_in ws d) where
    pub hold_astray : eqb d 0 || not (eqb stage 0) ≡ true → (26, ws) ≡ held_by b text ws d
    unfolding text_refusal held_at
    hold_astray e = by_refusal 26 (sym (first_fails 26 _ _ (rw is at e)))

    module _ (there : eqb d 0 || not (eqb stage 0) ≡ false) (r : Said) (told : meant r ≡ b.reads text) where
      pub hold_out : r ≡ OutOfRange → (27, ws) ≡ held_by b text ws d
      unfolding text_refusal held_at
      hold_out e = by_refusal 27 (sym (first_passes 26 _ _ (rw is at there) ∙ first_fails 27 _ _ (rw (← told, e))))

      pub hold_other : (w u : List ℕ) → (r ≡ OutOfRange → ⊥) → w ≡ joined_at ws d (leaves_of b.states (meant r)) → u ≡ staged_at w d 2 → (0, u) ≡ held_by b text ws d
      unfolding text_refusal held_at
      hold_other w u k f g = rw (g, f, told) (by_refusal 0 (sym (first_passes 26 _ _ (rw is at there) ∙ first_passes 27 _ _ (go r told k) ∙ first_end)))
        where
          go : (y : Said) → meant y ≡ b.reads text → (y ≡ OutOfRange → ⊥) → out_of_range b text ≡ false
          go (Number z) t e = rw (← t)
          go NoNumber t e = rw (← t)
          go OutOfRange t e = absurd (e refl)

pub ruleset hold_laws = (hold_astray, hold_out, hold_other)
