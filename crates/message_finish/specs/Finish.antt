-- What a message comes to after its last event, and a law for each way out of its code.
use Rattle.std.specs.Prelude.{◌≡◌, refl, true, false, ◌&&◌, List, ℕ, eqb}
use Rattle.std.proofs.Math.Path.{sym, ap}
use Rattle.std.proofs.Common.{◌∙◌, arith, ne_eqb}
use Rattle.std.proofs.Math.Bool.{not}
use Rattle.std.proofs.Math.Decide.{ℕ_discrete}
use Rattle.lists.specs.Checks.Laws.{first_fails, first_passes, first_end}
use Rattle.rules.specs.Message.{place_of, last_refusal}
use Rattle.message_levels.specs.Level.{stage_in}
use Rattle.message_events.specs.declared.Reader.{Reader}

-- what a body of n bytes comes to with the refusal e: the refusal and its place
abbrev pub ended_by : ℕ → ℕ → ℕ × ℕ
ended_by n e = (e, place_of e n)

unfoldable pub finished : Reader → ℕ → List ℕ → ℕ × ℕ
finished s n ws = ended_by n (last_refusal s.depth (stage_in ws s.depth))

module _ (s : Reader) (n : ℕ) (ws : List ℕ) (stage : ℕ) (is : stage ≡ stage_in ws s.depth) where
  pub finish_read : eqb s.depth 0 && eqb stage 1 ≡ true → (0, 0) ≡ finished s n ws
  unfolding finished last_refusal
  finish_read e = ap (ended_by n) (sym (first_passes 29 _ _ (ap not (rw is at e)) ∙ first_end))

  pub finish_open : eqb s.depth 0 && eqb stage 1 ≡ false → (29, n) ≡ finished s n ws
  unfolding finished last_refusal
  finish_open e = ap (ended_by n) (sym (first_fails 29 _ _ (ap not (rw is at e))))

pub ruleset finish_laws = (finish_read, finish_open)

-- a message that is read has no start open
pub last_top : (d stage : ℕ) → last_refusal d stage ≡ 0 → d ≡ 0
last_top d stage e = elim (ℕ_discrete d 0) [
  | yes z ↦ z
  | no z ↦ let due : last_refusal d stage ≡ 29 = unfold last_refusal in first_fails 29 _ _ (rw (ne_eqb d 0 z) refl) in absurd (omega (arith, sym due ∙ e))
]
