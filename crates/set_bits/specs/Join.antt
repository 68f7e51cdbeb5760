-- The loop that joins one set to another.
use Rattle.std.specs.Prelude.{◌≡◌, refl, List, ℕ, ◌+◌, ◌<◌, ◌≤◌, length, get_or, set}
use Rattle.std.proofs.Common.{sym, ◌∙◌, arith, length-set, ext_get_or, get_or-set_same, get_or-set_other}
use Rattle.std.proofs.Math.Decide.{ℕ_discrete}
use Rattle.std.specs.Int.Bits.{bit_or}
use Rattle.rules.specs.Sets.{set_width, either}
use Rattle.rules.proofs.Sets.Laws.{either_at, either_long}

-- the numbers below i are joined, the others as they were
pub record Joining (was other l : List ℕ) (i : ℕ) : Type 0 where
  pub eight : length was ≡ set_width
  pub theirs : length other ≡ set_width
  pub within : i ≤ set_width
  pub long : length l ≡ set_width
  pub done : (k : ℕ) → k < i → get_or l k 0 ≡ bit_or (get_or was k 0) (get_or other k 0)
  pub rest : (k : ℕ) → i ≤ k → get_or l k 0 ≡ get_or was k 0

pub joining_none : (l other : List ℕ) → length l ≡ set_width → length other ≡ set_width → Joining l other l 0
joining_none l other h u = record { eight = h; theirs = u; within = omega arith; long = h; done = λ k p. absurd (omega arith); rest = λ k p. refl }

pub joining_more : (was other l : List ℕ) (i : ℕ) → Joining was other l i → i < set_width →
    Joining was other (set l i (bit_or (get_or l i 0) (get_or other i 0))) (i + 1)
joining_more was other l i g h = record {
  eight = g.eight;
  theirs = g.theirs;
  within = omega arith;
  long = simp length-set g.long;
  done = λ k p. elim (ℕ_discrete k i) [
    | yes e ↦ let p : i < length l = omega (arith, g.long) in rw (e, get_or-set_same, g.rest i (omega arith))
    | no e ↦ rw (get_or-set_other _ _ _ _ _ e) (g.done k (omega arith))
  ];
  rest = λ k p. let e : k ≡ i → ⊥ = omega arith in rw (get_or-set_other _ _ _ _ _ e) (g.rest k (omega arith));
}

pub joining_all : (was other l : List ℕ) (i : ℕ) → Joining was other l i → set_width ≤ i → l ≡ either was other
joining_all was other l i g h =
    ext_get_or 0 l (either was other) (g.long ∙ sym (either_long was other))
    (λ k p. g.done k (omega (arith, g.long)) ∙ sym (either_at was other k (omega (arith, g.long))))

pub ruleset join_laws = (joining_none, joining_more, joining_all)
