-- The six relations, by their number in the book: what each asks of two numbers, and which it is.
use Rattle.std.specs.Prelude.{◌≡◌, refl, Bool, true, false, ℕ, eqb, ℤ}
use Rattle.std.proofs.Common.{ap, sym, ◌∙◌, true≢false, SFits, to_z, of_z}
use Rattle.std.proofs.Math.Bool.{not}
use Rattle.std.specs.Int.Signed.{lt_z, le_z}
use Rattle.std.specs.Int.{w32}
use Rattle.std.proofs.lemmas.Int.{to_z-of_z}
use borrow.Author.Tests.{eq-eqb, ne_eqb}
use Rattle.lists.specs.Choice.{pick}
use Rattle.rules.specs.State.{equal, differs, below, at_most, above, at_least, related}
use Rattle.rules.proofs.State.Laws.{equal_is}
use Rattle.rules.specs.Book.{relation_of}

-- `==` compares two i32 by their bits, and no two i32 have the same
same_bits : (a b : ℤ) → SFits w32 a → SFits w32 b → eqb (of_z w32 a) (of_z w32 b) ≡ related equal a b
same_bits a b h k = go (related equal a b) refl
  where
    go : (t : Bool) → related equal a b ≡ t → eqb (of_z w32 a) (of_z w32 b) ≡ t
    go true e = eq-eqb (of_z w32 a) (of_z w32 b) (ap (of_z w32) ((equal_is a b).0 e))
    go false e = ne_eqb (of_z w32 a) (of_z w32 b)
        (λ d. true≢false (sym ((equal_is a b).1 (sym (to_z-of_z w32 a h) ∙ ap (to_z w32) d ∙ to_z-of_z w32 b k)) ∙ e))

module _ (x : ℕ) (a b : ℤ) where
  pub is_equal : SFits w32 a → SFits w32 b → x ≡ 1 → eqb (of_z w32 a) (of_z w32 b) ≡ related (relation_of x) a b
  unfolding relation_of pick
  is_equal h k e = rw e (same_bits a b h k)

  pub is_different : SFits w32 a → SFits w32 b → x ≡ 2 → not (eqb (of_z w32 a) (of_z w32 b)) ≡ related (relation_of x) a b
  unfolding relation_of pick
  is_different h k e = rw e (ap not (same_bits a b h k))

  pub is_below : x ≡ 3 → lt_z a b ≡ related (relation_of x) a b
  unfolding relation_of pick
  is_below e = rw e

  pub is_at_most : x ≡ 4 → le_z a b ≡ related (relation_of x) a b
  unfolding relation_of pick
  is_at_most e = rw e

  pub is_above : x ≡ 5 → lt_z b a ≡ related (relation_of x) a b
  unfolding relation_of pick
  is_above e = rw e

  pub is_at_least : (x ≡ 1 → ⊥) → (x ≡ 2 → ⊥) → (x ≡ 3 → ⊥) → (x ≡ 4 → ⊥) → (x ≡ 5 → ⊥) → le_z b a ≡ related (relation_of x) a b
  unfolding relation_of pick
  is_at_least e f g h i = simp (ne_eqb _ _ e, ne_eqb _ _ f, ne_eqb _ _ g, ne_eqb _ _ h, ne_eqb _ _ i)

pub ruleset relation_laws = (is_equal, is_different, is_below, is_at_most, is_above, is_at_least)

-- which relation a number is
module _ (x : ℕ) where
  pub of_equal : x ≡ 1 → equal ≡ relation_of x
  unfolding relation_of pick
  of_equal e = rw e

  pub of_different : x ≡ 2 → differs ≡ relation_of x
  unfolding relation_of pick
  of_different e = rw e

  pub of_below : x ≡ 3 → below ≡ relation_of x
  unfolding relation_of pick
  of_below e = rw e

  pub of_at_most : x ≡ 4 → at_most ≡ relation_of x
  unfolding relation_of pick
  of_at_most e = rw e

  pub of_above : x ≡ 5 → above ≡ relation_of x
  unfolding relation_of pick
  of_above e = rw e

  pub of_at_least : (x ≡ 1 → ⊥) → (x ≡ 2 → ⊥) → (x ≡ 3 → ⊥) → (x ≡ 4 → ⊥) → (x ≡ 5 → ⊥) → at_least ≡ relation_of x
  unfolding relation_of pick
  of_at_least e f g h i = simp (ne_eqb _ _ e, ne_eqb _ _ f, ne_eqb _ _ g, ne_eqb _ _ h, ne_eqb _ _ i)

pub ruleset from_laws = (of_equal, of_different, of_below, of_at_most, of_above, of_at_least)
