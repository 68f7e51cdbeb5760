-- A law for each way through the engine's calls.
use Rattle.std.specs.Prelude.{◌≡◌, refl, List, ℕ, zero, suc, ◌*◌, ◌≤◌, length, Err}
use Rattle.std.proofs.Math.Path.{sym}
use Rattle.std.proofs.Common.{ap, ◌∙◌, arith, eq-eqb, ne_eqb, ltb-false, leb-false}
use Rattle.lists.specs.Checks.{first_of}
use Rattle.lists.specs.Choice.Laws.{pick_true, pick_false, neither}
use Rattle.lists.specs.Checks.Laws.{first_zero}
use Rattle.rules.specs.Book.{book_refusal}
use Rattle.rules.specs.DayFile.{message_count, day_refusal}
use Rattle.rules.specs.Memory.{slots_lent}
use Rattle.rules.specs.Run.{row_width, workspace_width, Lent, Returned, lent_checks, run_refusal, refused_run, pass_day, run}
use Rattle.rules.proofs.Run.Laws.{run_refused, run_accepted}
use Rattle.rules.specs.Calls.{counts, pass_refusal, pass_from}
use Rattle.rules.specs.Calls as rules
use Rattle.rules.specs.Promise.{lent}
use Rattle.refusals.specs.Numbers.{number_of}
use Rattle.refusals.specs.declared.Refusal.{Refusal}
use Rattle.memory_ask.specs.declared.Counts.{Counts}
use Rattle.memory_ask.specs.Ask.{carried_in}
use Rattle.day_pass_alone.specs.RunAccepted.{RunAccepted}
use Rattle.day_refusals.specs.Laws.{refused_book, refused_day, past_files, from_run, past_run, from_few, some_refusal}
use Rattle.day_run.specs.Calls.{total_of, returned}

module _ (l : Lent) where
  -- ── what is not refused ──
  book_passes : run_refusal l ≡ 0 → book_refusal l.book ≡ 0
  book_passes e = go (book_refusal l.book) refl
    where
      go : (n : ℕ) → book_refusal l.book ≡ n → book_refusal l.book ≡ 0
      go zero d = d
      go (suc n) d = absurd (let z : run_refusal l ≡ book_refusal l.book = sym (refused_book l (book_refusal l.book) refl (λ k. omega arith)) in omega arith)

  day_passes : run_refusal l ≡ 0 → day_refusal l.day ≡ 0
  day_passes e = go (day_refusal l.day) refl
    where
      go : (n : ℕ) → day_refusal l.day ≡ n → day_refusal l.day ≡ 0
      go zero d = d
      go (suc n) d = absurd (let z : run_refusal l ≡ day_refusal l.day = sym (refused_day l (book_refusal l.book) refl (book_passes e) (day_refusal l.day) refl (λ k. omega arith)) in omega arith)

  lent_pass : run_refusal l ≡ 0 → (row_width * message_count l.day ≤ length l.answers) × (workspace_width ≤ length l.workspace)
  lent_pass e =
      let f : first_of (lent_checks l) ≡ 0 = sym (past_files l (book_refusal l.book) refl (book_passes e) (day_refusal l.day) refl (day_passes e)) ∙ e in
      let one = first_zero 11 _ _ (omega arith) f in
      let two = first_zero 12 _ _ (omega arith) one.1 in
      (ltb-false _ _ one.0, ltb-false _ _ two.0)

-- ── the run is the pass from no filled slots ──
pub run_from_none : (l : Lent) → pass_from l (counts 0 0 0) ≡ run l
unfolding pass_from
run_from_none l = go (run_refusal l) refl
  where
    go : (n : ℕ) → n ≡ run_refusal l → pass_from l (counts 0 0 0) ≡ run l
    go zero e =
        let p : 0 ≡ pass_refusal l (counts 0 0 0) = from_few l (counts 0 0 0) 0 e refl (slots_lent l.memory) refl (omega arith) (omega arith) (omega arith) in
        pick_true _ _ _ (eq-eqb _ _ (sym p)) ∙ sym (run_accepted l (sym e))
    go (suc k) e =
        let p : suc k ≡ pass_refusal l (counts 0 0 0) = from_run l (counts 0 0 0) (suc k) e (λ z. omega arith) in
        pick_false _ _ _ (ne_eqb _ _ (λ z. omega arith)) ∙ ap (refused_run l) (sym p) ∙ sym (run_refused l k (sym e))

-- ── the pass from filled slots ──
module _ (book day memory answers ws : List ℕ) (asked anew filled : ℕ) where
  abbrev l : Lent
  l = lent book day memory answers ws

  abbrev from : rules.Counts
  from = counts asked anew filled

  abbrev begun : Counts
  begun = record { asked = asked; anew = anew; filled = filled }

  run_passed : 0 ≡ pass_refusal l from → 0 ≡ run_refusal l
  run_passed z = go (run_refusal l) refl
    where
      go : (k : ℕ) → run_refusal l ≡ k → 0 ≡ run_refusal l
      go zero d = sym d
      go (suc k) d = absurd (let y : run_refusal l ≡ pass_refusal l from = from_run l from (run_refusal l) refl (λ e. omega arith) in omega arith)

  pub run_files_accepted : run_refusal l ≡ 0 → (book_refusal book ≡ 0) × (day_refusal day ≡ 0)
  run_files_accepted z = (book_passes l z, day_passes l z)

  pub files_accepted : 0 ≡ pass_refusal l from → (book_refusal book ≡ 0) × (day_refusal day ≡ 0)
  files_accepted z = run_files_accepted (sym (run_passed z))

  pub from_accepts : 0 ≡ pass_refusal l from → RunAccepted day memory answers ws begun
  from_accepts z =
      let runs : 0 ≡ run_refusal l = run_passed z in
      let one = first_zero 14 _ _ (omega arith) (sym (past_run l from 0 runs refl) ∙ sym z) in
      let two = first_zero 19 _ _ (omega arith) one.1 in
      let many = neither _ _ two.0 in
      record {
        room = (lent_pass l (sym runs)).0;
        levels = (lent_pass l (sym runs)).1;
        lent = ltb-false _ _ one.0;
        asked = leb-false _ _ many.0;
        anew = leb-false _ _ many.1;
      }

  pub from_refuses : (n : ℕ) → (n ≡ 0 → ⊥) → n ≡ pass_refusal l from → returned (record { refusal = n; asked = 0; anew = 0; filled = 0 }) memory answers ws ≡ pass_from l from
  unfolding pass_from
  from_refuses n h told = ap (refused_run l) told ∙ sym (pick_false _ _ _ (ne_eqb _ _ (λ z. h (told ∙ z))))

  pub from_refused : (e : Refusal) → number_of e ≡ pass_refusal l from → returned (total_of (Err e)) memory answers ws ≡ pass_from l from
  from_refused e told = from_refuses (number_of e) (some_refusal e) told

  pub from_passes : (g : Returned) → 0 ≡ pass_refusal l from → g ≡ pass_day l (carried_in memory begun) → g ≡ pass_from l from
  unfolding pass_from
  from_passes g told e = e ∙ sym (pick_true _ _ _ (eq-eqb _ _ (sym told)))

pub ruleset from_laws = (from_accepts, from_refused, from_passes)
