-- Laws of checks in an order: the first that fails, row by row; checks joined, and checks with their numbers raised.
use Rattle.std.specs.Prelude.{◌≡◌, refl, Bool, true, false, ◌&&◌, List, [], ◌∷◌, ◌++◌, ℕ, ◌+◌, ◌<◌, eqb, ltb}
use Rattle.std.proofs.Common.{sym, ◌∙◌, ap, arith, ne_eqb, ltb-true}
use Rattle.lists.specs.Choice.{pick}
use Rattle.lists.specs.Choice.Laws.{pick_false, both}
use Rattle.lists.specs.Checks.{Check, first_of, raised, row_fails, AllPass, FirstToFail}

pub first_fails : (n : ℕ) (t : Bool) (cs : List Check) → t ≡ true → first_of (record { number = n; fails = t } ∷ cs) ≡ n
unfolding first_of
first_fails n t cs e = rw (e, first_of)

pub first_passes : (n : ℕ) (t : Bool) (cs : List Check) → t ≡ false → first_of (record { number = n; fails = t } ∷ cs) ≡ first_of cs
unfolding first_of
first_passes n t cs e = rw (e, first_of)

pub first_end : first_of [] ≡ 0
unfolding first_of
first_end = refl

-- where none fails, the first does not
pub first_zero : (n : ℕ) (t : Bool) (cs : List Check) → 0 < n → first_of (record { number = n; fails = t } ∷ cs) ≡ 0 → (t ≡ false) × (first_of cs ≡ 0)
first_zero n true cs h e = absurd (let d : n ≡ 0 = sym (first_fails n true cs refl) ∙ e in omega arith)
first_zero n false cs h e = (refl, sym (first_passes n false cs refl) ∙ e)

-- ── a number is given exactly when a row with it fails and no row before that one does ──
-- no row is numbered 0, the number of no refusal
abbrev pub no_zero : List Check → Bool
no_zero [] = true
no_zero (c ∷ cs) = ltb 0 c.number && no_zero cs

row_number : (c : Check) (cs : List Check) → no_zero (c ∷ cs) ≡ true → (0 < c.number) × (no_zero cs ≡ true)
row_number c cs z = let p = both (ltb 0 c.number) (no_zero cs) z in (ltb-true 0 c.number p.0, p.1)

first_at : (before : List Check) (c : Check) (after : List Check) → AllPass before → c.fails ≡ true → first_of (before ++ c ∷ after) ≡ c.number
first_at [] c after p e = first_fails c.number c.fails after e
first_at (b ∷ before) c after p e = first_passes b.number b.fails (before ++ c ∷ after) p.0 ∙ first_at before c after p.1 e

pub given_first : (cs : List Check) (n : ℕ) → FirstToFail cs n → first_of cs ≡ n
given_first cs n g = ap first_of g.order ∙ first_at g.before g.row g.after g.earlier g.own ∙ g.number

-- a number that is no 0 is given only so
pub first_given : (cs : List Check) (n : ℕ) → 0 < n → first_of cs ≡ n → FirstToFail cs n
unfolding first_of
first_given [] n h e = absurd (omega arith)
first_given (c ∷ cs) n h e = go c.fails refl (first_given cs n h) e
  where
    go : (t : Bool) → c.fails ≡ t → (first_of cs ≡ n → FirstToFail cs n) → ◌≡◌ {A = ℕ} (elim t [ true ↦ c.number | false ↦ first_of cs ]) n → FirstToFail (c ∷ cs) n
    go true f ih e = record { before = []; row = c; after = cs; order = refl; earlier = tt; own = f; number = e }
    go false f ih e =
        let g : FirstToFail cs n = ih e in
        record {
          before = c ∷ g.before;
          row = g.row;
          after = g.after;
          order = ap (λ (ds : List Check). c ∷ ds) g.order;
          earlier = (f, g.earlier);
          own = g.own;
          number = g.number;
        }

-- none is given exactly when no row fails
pub none_fails : (cs : List Check) → no_zero cs ≡ true → first_of cs ≡ 0 → AllPass cs
none_fails [] z e = tt
none_fails (c ∷ cs) z e =
    let n = row_number c cs z in
    let p = first_zero c.number c.fails cs n.0 e in
    (p.0, none_fails cs n.1 p.1)

pub all_pass : (cs : List Check) → AllPass cs → first_of cs ≡ 0
all_pass [] p = first_end
all_pass (c ∷ cs) p = first_passes c.number c.fails cs p.0 ∙ all_pass cs p.1

-- then no row fails that is looked up by its number
pub row_passes : (cs : List Check) → AllPass cs → (n : ℕ) → row_fails cs n ≡ false
row_passes [] p n = refl
row_passes (c ∷ cs) p n = go (eqb c.number n) (row_passes cs p.1 n)
  where
    go : (t : Bool) → row_fails cs n ≡ false → ◌≡◌ {A = Bool} (elim t [ true ↦ c.fails | false ↦ row_fails cs n ]) false
    go true ih = p.0
    go false ih = ih

-- checks joined: the later ones count where no earlier one fails
pub first_join : (cs ds : List Check) → no_zero cs ≡ true → first_of (cs ++ ds) ≡ pick (eqb (first_of cs) 0) (first_of ds) (first_of cs)
unfolding first_of pick
first_join [] ds z = refl
first_join (c ∷ cs) ds z = go c.fails (first_join cs ds (row_number c cs z).1)
  where
    go : (t : Bool) → first_of (cs ++ ds) ≡ pick (eqb (first_of cs) 0) (first_of ds) (first_of cs) →
        ◌≡◌ {A = ℕ} (elim t [ true ↦ c.number | false ↦ first_of (cs ++ ds) ])
        (pick (eqb (elim t [ true ↦ c.number | false ↦ first_of cs ]) 0) (first_of ds) (elim t [ true ↦ c.number | false ↦ first_of cs ]))
    go true ih = sym (pick_false _ _ _ (ne_eqb c.number 0 (λ e. omega (arith, (row_number c cs z).0))))
    go false ih = ih

-- numbers raised by k: the number given is raised, and none is given where none was
pub first_raised : (k : ℕ) (cs : List Check) → no_zero cs ≡ true → first_of (raised k cs) ≡ pick (eqb (first_of cs) 0) 0 (k + first_of cs)
unfolding first_of pick
first_raised k [] z = refl
first_raised k (c ∷ cs) z = go c.fails (first_raised k cs (row_number c cs z).1)
  where
    go : (t : Bool) → first_of (raised k cs) ≡ pick (eqb (first_of cs) 0) 0 (k + first_of cs) →
        ◌≡◌ {A = ℕ} (elim t [ true ↦ k + c.number | false ↦ first_of (raised k cs) ])
        (pick (eqb (elim t [ true ↦ c.number | false ↦ first_of cs ]) 0) 0 (k + (elim t [ true ↦ c.number | false ↦ first_of cs ])))
    go true ih = sym (pick_false _ _ _ (ne_eqb c.number 0 (λ e. omega (arith, (row_number c cs z).0))))
    go false ih = ih
