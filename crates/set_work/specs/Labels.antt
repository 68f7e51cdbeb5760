-- Whether a STEP's label fits a child's: a law for each way out.
use Rattle.std.specs.Prelude.{◌≡◌, ◌&&◌, ℕ, eqb, ltb}
use Rattle.std.proofs.Common.{eq-eqb, ne_eqb}
use Rattle.lists.specs.Choice.{pick}
use Rattle.rules.specs.State.{any_element, any_attribute, label_limit, fits}

pub fits_element : (l x : ℕ) → l ≡ any_element → ltb any_element x && ltb x any_attribute ≡ fits l x
unfolding fits pick
fits_element l x e = rw (eq-eqb l any_element e)

pub fits_attribute : (l x : ℕ) → l ≡ any_attribute → ltb any_attribute x && ltb x label_limit ≡ fits l x
unfolding fits pick
fits_attribute l x e = rw e

pub fits_name : (l x : ℕ) → (l ≡ any_element → ⊥) → (l ≡ any_attribute → ⊥) → eqb l x ≡ fits l x
unfolding fits pick
fits_name l x n m = rw (ne_eqb l any_element n, ne_eqb l any_attribute m)

pub ruleset fits_laws = (fits_element, fits_attribute, fits_name)
