-- The run's promise and the pass's allow one outcome: the result itself, and what each slice holds when the call ends.
use Rattle.std.specs.Prelude.{◌≡◌, List, ℕ, Result, Ok, Err}
use Rattle.std.proofs.Common.{ap, arith}
use Rattle.rules.specs.Run.{Lent, Returned}
use Rattle.rules.specs.Calls as rules
use Rattle.rules.specs.Promise.{RunPromise, PassPromise, one_run, one_pass}
use Rattle.refusals.specs.declared.Refusal.{Refusal}
use Rattle.refusals.specs.Laws.{number_positive}
use Rattle.refusals.proofs.Alone.{number_alone}
use Rattle.memory_ask.specs.declared.Counts.{Counts}
use Rattle.day_run.specs.declared.Total.{Total}
use Rattle.day_run.specs.Calls.{total_of, returned}

-- what comes to the same number and counts is the same
total_alone : (r s : Result Counts Refusal) → total_of r ≡ total_of s → r ≡ s
total_alone (Ok c) (Ok d) h = ap (λ (t : Total). Ok (record { asked = t.asked; anew = t.anew; filled = t.filled })) h
total_alone (Ok c) (Err f) h = absurd (omega (arith, number_positive f, ap (λ (t : Total). t.refusal) h))
total_alone (Err e) (Ok d) h = absurd (omega (arith, number_positive e, ap (λ (t : Total). t.refusal) h))
total_alone (Err e) (Err f) h = ap Err (number_alone e f (ap (λ (t : Total). t.refusal) h))

abbrev total_in : Returned → Total
total_in g = record { refusal = g.refusal; asked = g.asked; anew = g.anew; filled = g.filled }

module _ (r s : Result Counts Refusal) (m a w n b v : List ℕ) where
  alone : returned (total_of r) m a w ≡ returned (total_of s) n b v → (r ≡ s) × (m ≡ n) × (a ≡ b) × (w ≡ v)
  alone h = (
    total_alone r s (ap total_in h),
    ap (λ (g : Returned). g.memory) h,
    ap (λ (g : Returned). g.answers) h,
    ap (λ (g : Returned). g.workspace) h,
  )

  pub run_alone : (l : Lent) → RunPromise l (returned (total_of r) m a w) → RunPromise l (returned (total_of s) n b v)
      → (r ≡ s) × (m ≡ n) × (a ≡ b) × (w ≡ v)
  run_alone l p q = alone (one_run l p q)

  pub pass_alone : (l : Lent) (c : rules.Counts) → PassPromise l c (returned (total_of r) m a w) → PassPromise l c (returned (total_of s) n b v)
      → (r ≡ s) × (m ≡ n) × (a ≡ b) × (w ≡ v)
  pass_alone l c p q = alone (one_pass l c p q)
