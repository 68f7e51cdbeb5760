-- Bodies that stand one after the other, and a loop that looks for one that does not: `place` is where body k must start.
-- Body k starts at `start k`; the first must start at `first`, and the bodies before body k have `before k` bytes.
use Rattle.std.specs.Prelude.{◌≡◌, refl, Bool, true, false, ◌||◌, not, ℕ, ◌+◌, ◌*◌, ◌^◌, ◌<◌, ◌≤◌, eqb}
use Rattle.std.proofs.Common.{sym, ◌∙◌, arith, eq-eqb, ne_eqb}
use Rattle.lists.specs.Below.{some_below}
use Rattle.lists.specs.Below.Searched.{Searched, searched_none, searched_next, searched_hit, searched_all}

abbrev pub strays : (ℕ → ℕ) → (ℕ → ℕ) → ℕ → ℕ → Bool
strays start before first k = not (eqb (start k) (first + before k))

-- a body is out of its place among the n, or the whole does not end with the last
abbrev pub astray : (ℕ → ℕ) → (ℕ → ℕ) → ℕ → ℕ → ℕ → Bool
astray start before first n whole = some_below (strays start before first) n || not (eqb whole (first + before n))

pub record Laid (start before : ℕ → ℕ) (first n place k : ℕ) : Type 0 where
  pub searched : Searched (strays start before first) n k
  pub low : place ≤ first + 2 ^ 32 * k
  pub same : place ≡ first + before k

module _ {start before : ℕ → ℕ} {first n : ℕ} where
  pub laid_none : before 0 ≡ 0 → Laid start before first n first 0
  laid_none z = record { searched = searched_none; low = omega arith; same = omega (arith, z) }

  module _ {place k s : ℕ} (g : Laid start before first n place k) (h : k < n) (read : s ≡ start k) where
    pub laid_next : {l : ℕ} → s ≡ place → l < 2 ^ 32 → before (k + 1) ≡ before k + l → Laid start before first n (place + l) (k + 1)
    laid_next {l} e m b =
        let z : start k ≡ first + before k = sym read ∙ e ∙ g.same in
        record { searched = searched_next g.searched h refl (rw (eq-eqb _ _ z)); low = omega (arith, g.low); same = omega (arith, g.same, b) }

    pub laid_hit : (whole : ℕ) → (s ≡ place → ⊥) → true ≡ astray start before first n whole
    laid_hit whole d =
        let z : start k ≡ first + before k → ⊥ = λ e. d (read ∙ e ∙ sym g.same) in
        let e : true ≡ some_below (strays start before first) n = searched_hit g.searched h refl (rw (ne_eqb _ _ z)) in
        rw (← e)

  pub laid_all : {place k : ℕ} (whole : ℕ) → Laid start before first n place k → n ≤ k → not (eqb whole place) ≡ astray start before first n whole
  laid_all {place} {k} whole g h =
      let e : false ≡ some_below (strays start before first) n = searched_all g.searched h in
      let q : k ≡ n = omega (arith, g.searched.within) in
      let z : place ≡ first + before n = rw (← q) g.same in
      rw (← e, z)
