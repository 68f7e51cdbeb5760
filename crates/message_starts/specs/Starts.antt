-- What a start makes of the levels, and a law for each way out of its code.
use Rattle.std.proofs.Math.Path.{◌≡◌, refl, sym}
use Rattle.std.proofs.Common.{◌∙◌, arith}
use Rattle.std.specs.Prelude.{Bool, ◌||◌, List, ℕ, ◌+◌, ◌<◌, ◌≤◌}
use Rattle.std.proofs.Math.Bool.{true, false}
use Rattle.std.proofs.Math.Dec.{eqb, leb}
use borrow.Author.Tests.{lt-ltb, le-ltb, le-leb, lt-leb, leb-false}
use Rattle.lists.specs.Checks.{first_of}
use Rattle.lists.specs.Checks.Laws.{first_fails, first_passes, first_end}
use Rattle.rules.specs.State.{any_element, any_attribute, attribute}
use Rattle.rules.specs.Message.{most_open, start_astray, start_refusal, stage_after}
use Rattle.message_levels.specs.Level.{HasLevel, opened_at, staged_at}

-- the parent's level d has the stage that its child gives it, and the child's level is opened
unfoldable pub child_opened : List ℕ → ℕ → ℕ → ℕ → List ℕ
child_opened ws d stage x = opened_at (staged_at ws d (stage_after (attribute x) stage)) (d + 1) x

module _ (depth label stage x : ℕ) where
  pub refusal_23 : eqb x any_element || eqb x any_attribute ≡ true → 23 ≡ start_refusal depth label stage x
  unfolding start_refusal
  refusal_23 e = sym (first_fails 23 _ _ e)

  module _ (name : eqb x any_element || eqb x any_attribute ≡ false) where
    pub refusal_24 : start_astray depth label stage x ≡ true → 24 ≡ start_refusal depth label stage x
    unfolding start_refusal
    refusal_24 e = sym (first_passes 23 _ _ name ∙ first_fails 24 _ _ e)

    module _ (there : start_astray depth label stage x ≡ false) where
      pub refusal_25 : most_open ≤ depth → 25 ≡ start_refusal depth label stage x
      unfolding start_refusal
      refusal_25 h = sym (first_passes 23 _ _ name ∙ first_passes 24 _ _ there ∙ first_fails 25 _ _ (le-leb most_open depth h))

      pub refusal_0 : depth < most_open → 0 ≡ start_refusal depth label stage x
      unfolding start_refusal
      refusal_0 h = sym (first_passes 23 _ _ name ∙ first_passes 24 _ _ there ∙ first_passes 25 _ _ (lt-leb most_open depth h) ∙ first_end)

  -- where a start is allowed, a level is left for it
  pub start_room : (ws : List ℕ) (e : ℕ) → e ≡ start_refusal depth label stage x → e ≡ 0 → HasLevel ws depth → HasLevel ws (depth + 1)
  unfolding start_refusal first_of
  start_room ws n told z has = record { within = omega (arith, below); room = has.room }
    where
      go : (t u v : Bool) → leb most_open depth ≡ v → ◌≡◌ {A = ℕ} (elim t [ true ↦ 23 | false ↦ elim u [ true ↦ 24 | false ↦ elim v [ true ↦ 25 | false ↦ 0 ] ] ]) 0 → depth < most_open
      go true u v e k = absurd (omega arith)
      go false true v e k = absurd (omega arith)
      go false false true e k = absurd (omega arith)
      go false false false e k = leb-false most_open depth e

      below : depth < most_open
      below = unfold start_refusal first_of in go (eqb x any_element || eqb x any_attribute) (start_astray depth label stage x) (leb most_open depth) refl (sym told ∙ z)

pub ruleset refusal_laws = (refusal_23, refusal_24, refusal_25, refusal_0)

pub stage_attribute : (x stage : ℕ) → any_attribute < x → stage ≡ stage_after (attribute x) stage
stage_attribute x stage h = rw (lt-ltb any_attribute x h)

pub stage_element : (x stage : ℕ) → x ≤ any_attribute → 1 ≡ stage_after (attribute x) stage
stage_element x stage h = rw (le-ltb any_attribute x h)

pub ruleset stage_laws = (stage_attribute, stage_element)

-- what opening a child's level makes of the workspace
pub opened_child : (ws w v : List ℕ) (d stage x t : ℕ) → t ≡ stage_after (attribute x) stage → w ≡ staged_at ws d t → v ≡ opened_at w (d + 1) x → v ≡ child_opened ws d stage x
unfolding child_opened
opened_child ws w v d stage x t f g h = rw (h, g, f)
