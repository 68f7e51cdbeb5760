-- Laws of a choice, and of tests of which both, or neither, pass.
use Rattle.std.specs.Prelude.{◌≡◌, Bool, ◌||◌, ◌&&◌, not}
use Rattle.std.proofs.Math.Path.{refl}
use Rattle.std.proofs.Math.Bool.{true, false}
use Rattle.std.proofs.Common.{true≢false}
use Rattle.std.proofs.lemmas.Bool.{false≢true}
use Rattle.lists.specs.Choice.{pick}

module _ {A : Type 0} where
  pub pick_true : (t : Bool) (a b : A) → t ≡ true → pick t a b ≡ a
  unfolding pick
  pick_true t a b e = rw e

  pub pick_false : (t : Bool) (a b : A) → t ≡ false → pick t a b ≡ b
  unfolding pick
  pick_false t a b e = rw e

  -- what holds of both sides holds of the choice
  pub pick_cases : (P : A → Type 0) (t : Bool) {a b : A} → (t ≡ true → P a) → (t ≡ false → P b) → P (pick t a b)
  unfolding pick
  pick_cases P true f g = f refl
  pick_cases P false f g = g refl

pub both : (p q : Bool) → p && q ≡ true → (p ≡ true) × (q ≡ true)
both true q e = (refl, e)
both false q e = absurd (false≢true e)

pub neither : (p q : Bool) → p || q ≡ false → (p ≡ false) × (q ≡ false)
neither true q e = absurd (true≢false e)
neither false q e = (refl, e)

pub not_not : (p : Bool) → not p ≡ false → p ≡ true
not_not true e = refl
not_not false e = absurd (true≢false e)
