-- A loop that compares two lists, number by number.
use Rattle.std.specs.Prelude.{◌≡◌, refl, true, false, ◌&&◌, List, ℕ, suc, ◌+◌, ◌≤◌, ◌<◌, eqb, length, get_or, drop}
use Rattle.std.proofs.Common.{arith, add-one, drop_of_length-le, drop-cons, eq-eqb, ne_eqb}
use Rattle.lists.specs.Same.{same_list}

-- the first i are the same: what is left to compare decides
pub record Comparing (a b : List ℕ) (i : ℕ) : Type 0 where
  pub within : i ≤ length a
  pub long : length a ≡ length b
  pub left : same_list (drop i a) (drop i b) ≡ same_list a b

pub comparing_none : (a b : List ℕ) → length a ≡ length b → Comparing a b 0
comparing_none a b h = record { within = omega arith; long = h; left = refl }

-- one number more, and what is left after it
comparing_turn : (a b : List ℕ) (i : ℕ) → Comparing a b i → i < length a
    → eqb (get_or a i 0) (get_or b i 0) && same_list (drop (suc i) a) (drop (suc i) b) ≡ same_list a b
unfolding same_list
comparing_turn a b i g h = rw (drop-cons a i 0 h, drop-cons b i 0 (omega arith)) at g.left

pub comparing_next : (a b : List ℕ) (i : ℕ) → Comparing a b i → i < length a → get_or a i 0 ≡ get_or b i 0 → Comparing a b (i + 1)
comparing_next a b i g h e = record {
  within = omega arith;
  long = g.long;
  left = rw add-one (simp (eq-eqb _ _ e) at (comparing_turn a b i g h));
}

pub comparing_differs : (a b : List ℕ) (i : ℕ) → Comparing a b i → i < length a → (get_or a i 0 ≡ get_or b i 0 → ⊥) → false ≡ same_list a b
comparing_differs a b i g h e = simp (ne_eqb _ _ e) at (comparing_turn a b i g h)

pub comparing_all : (a b : List ℕ) (i : ℕ) → Comparing a b i → length a ≤ i → true ≡ same_list a b
unfolding same_list
comparing_all a b i g h = rw (drop_of_length-le a h, drop_of_length-le b {i = i} (omega arith)) at g.left

pub ruleset comparing_laws = (comparing_none, comparing_next, comparing_differs, comparing_all)
