-- A state from its eight bytes: a law for each kind.
use Rattle.std.specs.Prelude.{◌≡◌, List, ℕ, ℤ, ◌+◌, ◌^◌, ◌<◌, get_or}
use Rattle.std.proofs.Common.{◌∙◌, ne_eqb, to_z, of_z}
use Rattle.std.proofs.Math.Decide.{ℕ_discrete}
use Rattle.std.specs.Int.{w32}
use Rattle.rules.specs.Bytes.{le2, le4, signed4}
use Rattle.rules.specs.Book.{state_at, relation_of}
use Rattle.lists.specs.Choice.{pick}
use Rattle.number_text.specs.declared.Relation.{Relation}
use Rattle.number_text.specs.Meant.{meant_relation}
use Rattle.number_text.specs.Laws.{back32}
use Rattle.book_plan.specs.declared.State.TheVariants.{True, Leaf, And, Or, Not, Step}
use Rattle.book_plan.specs.Plan.{meant_state}
use Rattle.book_plan.proofs.Laws.{state_true, state_leaf, state_and, state_or, state_not, state_step}
use Rattle.std.specs.Int.Signed.{mag}

-- a kind k, which stands at the first of them
module _ (b : List ℕ) (base at k : ℕ) (is : k ≡ get_or b at 0) where
  -- the constant is an i32 that a call gave
  pub kind_leaf : (one u : ℕ) (r : Relation) (c : ℤ) → k ≡ 1 → one ≡ get_or b (at + 1) 0 → meant_relation r ≡ relation_of one →
      u ≡ le4 b (at + 4) → c ≡ signed4 u → mag c < 2 ^ 31 → meant_state (Leaf r (to_z w32 (of_z w32 c))) ≡ state_at b base at
  unfolding state_at pick
  kind_leaf one u r c e f g h i m = state_leaf r _ ∙ rw (back32 c m, ← is, e, g, f, i, h)

  module _ (x y : ℕ) (first : x ≡ le2 b (at + 2)) (second : y ≡ le2 b (at + 4)) where
    pub kind_and : k ≡ 2 → meant_state (And (base + x) (base + y)) ≡ state_at b base at
    unfolding state_at pick
    kind_and e = state_and (base + x) (base + y) ∙ rw (← is, e, first, second)

    pub kind_or : k ≡ 3 → meant_state (Or (base + x) (base + y)) ≡ state_at b base at
    unfolding state_at pick
    kind_or e = state_or (base + x) (base + y) ∙ rw (← is, e, first, second)

    pub kind_step : k ≡ 5 → meant_state (Step x (base + y)) ≡ state_at b base at
    unfolding state_at pick
    kind_step e = state_step x (base + y) ∙ rw (← is, e, first, second)

  pub kind_not : (x : ℕ) → x ≡ le2 b (at + 2) → k ≡ 4 → meant_state (Not (base + x)) ≡ state_at b base at
  unfolding state_at pick
  kind_not x f e = state_not (base + x) ∙ rw (← is, e, f)

  pub kind_true : (k ≡ 1 → ⊥) → (k ≡ 2 → ⊥) → (k ≡ 3 → ⊥) → (k ≡ 4 → ⊥) → (k ≡ 5 → ⊥) → meant_state True ≡ state_at b base at
  unfolding state_at pick
  kind_true n1 n2 n3 n4 n5 = state_true ∙ elim (ℕ_discrete k 0) [
    | yes z ↦ rw (← is, z)
    | no n0 ↦ rw (← is) (simp (ne_eqb _ _ n0, ne_eqb _ _ n1, ne_eqb _ _ n2, ne_eqb _ _ n3, ne_eqb _ _ n4, ne_eqb _ _ n5))
  ]

pub ruleset kind_laws = (kind_leaf, kind_and, kind_or, kind_not, kind_step, kind_true)
