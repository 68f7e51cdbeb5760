-- Chains over the range `0..n`: whether some number below n passes a test.
use Rattle.std.specs.Prelude.{◌≡◌, refl, Option, Bool, true, false, ◌||◌, List, ℕ, zero, suc, ◌+◌, ◌-◌}
use Rattle.std.specs.List.{list_any, range_with_len, FoldsTo}
use Rattle.std.specs.Option.{MatchOption}
use Rattle.std.specs.Fn.{Called}
use Rattle.std.specs.Iterator.{YieldsThen}
use Rattle.std.specs.declared.ops.Range.{Range}
use Rattle.std.proofs.Common.{sym, ap, ◌∙◌, add-zero, zero-add, arith}
use Rattle.std.proofs.iter.Yields.{nat_range_steps}
use Rattle.std.proofs.lemmas.Iterator.{YieldsList-from_range}
use Rattle.std.proofs.lemmas.Iterator.Search.{any_from_yields_List}
use Rattle.std.proofs.Math.Bool.{or_assoc, or-false}
use denote.Param.Members.{Mut}
use Rattle.lists.specs.Below.{some_below}

-- one number more, in front of the others
some_first : (p : ℕ → Bool) (n : ℕ) → p 0 || some_below (λ k. p (k + 1)) n ≡ some_below p (suc n)
unfolding some_below
some_first p zero = or-false (p 0)
some_first p (suc n) =
    let e : n + 1 ≡ suc n = omega arith in
    sym (or_assoc (p 0) (some_below (λ k. p (k + 1)) n) (p (n + 1))) ∙ ap (λ t. t || p (n + 1)) (some_first p n) ∙ rw e refl

-- the n numbers from a on pass p as those from 0 on pass q
some_from : (p q : ℕ → Bool) (a n : ℕ) → ((k : ℕ) → q k ≡ p (a + k)) → list_any p (range_with_len a n) ≡ some_below q n
unfolding some_below
some_from p q a zero e = refl
some_from p q a (suc n) e =
    let one : (k : ℕ) → q (k + 1) ≡ p (a + 1 + k) = λ k. let d : a + (k + 1) ≡ a + 1 + k = omega arith in rw (← d) (e (k + 1)) in
    let first : q 0 ≡ p a = rw add-zero at (e 0) in
    rw (some_from p (λ k. q (k + 1)) (a + 1) n one, ← first) (some_first q n)

module _ {F : Type 0} {g : Mut F (ℕ × Unit {0}) Bool} {s u : Range ℕ} {f : F} {r : Bool} (p : ℕ → Bool) where
  -- what `(a..b).any(f)` gives, where f computes the test p; q is p counted from a
  pub any_between : (q : ℕ → Bool) (a b : ℕ)
      → (xs : List ℕ) × (o : Option ℕ) × (j : F) × YieldsThen nat_range_steps s xs o u × FoldsTo (λ p x q. Called g p (x, tt) false q) f xs j × MatchOption o (r ≡ false) (λ x. (r ≡ true) × ((h : F) × Called g j (x, tt) true h))
      → s ≡ record { start = a; end = b } → ((x : ℕ) (b : Bool) (q : F) → Called g f (x, tt) b q → (q ≡ f) × (b ≡ p x))
      → ((k : ℕ) → q k ≡ p (a + k)) → r ≡ some_below q (b - a)
  any_between q a b ran e h d = any_from_yields_List p u f r ran (YieldsList-from_range a b (b - a) e refl) h ∙ some_from p q a (b - a) d

  pub any_below : (n : ℕ)
      → (xs : List ℕ) × (o : Option ℕ) × (j : F) × YieldsThen nat_range_steps s xs o u × FoldsTo (λ p x q. Called g p (x, tt) false q) f xs j × MatchOption o (r ≡ false) (λ x. (r ≡ true) × ((h : F) × Called g j (x, tt) true h))
      → s ≡ record { start = 0; end = n } → ((x : ℕ) (b : Bool) (q : F) → Called g f (x, tt) b q → (q ≡ f) × (b ≡ p x)) → r ≡ some_below p n
  any_below n ran e h = let z : n - 0 ≡ n = omega arith in rw z at (any_between p 0 n ran e h (λ k. rw zero-add refl))
