-- A law for each way out of the refusals of the run and of the pass.
use Rattle.std.specs.Prelude.{◌≡◌, true, false, ◌||◌, [], ◌∷◌, ◌++◌, ℕ, ◌*◌, ◌<◌, ◌≤◌, eqb, leb, length}
use Rattle.std.proofs.Math.Path.{refl, ap}
use Rattle.std.proofs.Common.{sym, ◌∙◌, arith, eq-eqb, ne_eqb, lt-ltb, le-ltb}
use Rattle.std.proofs.lemmas.Bool.{le-leb, lt-leb}
use Rattle.lists.specs.Choice.{pick}
use Rattle.lists.specs.Checks.{first_of}
use Rattle.lists.specs.Choice.Laws.{pick_true, pick_false}
use Rattle.lists.specs.Checks.Laws.{first_fails, first_passes, first_end, first_join}
use Rattle.rules.specs.Book.{book_checks, book_refusal}
use Rattle.rules.specs.DayFile.{message_count, day_checks, day_refusal}
use Rattle.rules.specs.Memory.{slots_lent}
use Rattle.rules.specs.Run.{row_width, workspace_width, Lent, lent_checks, run_checks, run_refusal}
use Rattle.rules.proofs.Run.Laws.{no_zero_lem}
use Rattle.rules.specs.Calls.{count_limit, Counts, count_checks, pass_refusal}
use Rattle.refusals.specs.declared.Refusal.{Refusal}
use Rattle.refusals.specs.Numbers.{number_of}
use Rattle.refusals.specs.Laws.{number_positive}

module _ (l : Lent) where
  -- ── the run ──
  joined : run_refusal l ≡ pick (eqb (book_refusal l.book) 0) (pick (eqb (day_refusal l.day) 0) (first_of (lent_checks l)) (day_refusal l.day)) (book_refusal l.book)
  unfolding run_refusal book_refusal day_refusal
  joined =
      first_join (book_checks l.book) (day_checks l.day ++ lent_checks l) refl
      ∙ ap (λ (n : ℕ). pick (eqb (first_of (book_checks l.book)) 0) n (first_of (book_checks l.book)))
      (first_join (day_checks l.day) (lent_checks l) refl)

  module _ (b : ℕ) (checked : b ≡ book_refusal l.book) where
    pub refused_book : (b ≡ 0 → ⊥) → b ≡ run_refusal l
    refused_book h = checked ∙ sym (joined ∙ pick_false _ _ _ (ne_eqb _ _ (λ e. h (checked ∙ e))))

    module _ (fine : b ≡ 0) (d : ℕ) (looked : d ≡ day_refusal l.day) where
      later : run_refusal l ≡ pick (eqb (day_refusal l.day) 0) (first_of (lent_checks l)) (day_refusal l.day)
      later = joined ∙ pick_true _ _ _ (eq-eqb _ _ (sym checked ∙ fine))

      pub refused_day : (d ≡ 0 → ⊥) → d ≡ run_refusal l
      refused_day h = looked ∙ sym (later ∙ pick_false _ _ _ (ne_eqb _ _ (λ e. h (looked ∙ e))))

      module _ (whole : d ≡ 0) where
        pub past_files : run_refusal l ≡ first_of (lent_checks l)
        past_files = later ∙ pick_true _ _ _ (eq-eqb _ _ (sym looked ∙ whole))

        module _ (n : ℕ) (count : n ≡ message_count l.day) where
          pub refused_answers : length l.answers < row_width * n → 11 ≡ run_refusal l
          refused_answers h = sym (past_files ∙ first_fails 11 _ _ (lt-ltb _ _ (rw count at h)))

          pub refused_levels : row_width * n ≤ length l.answers → length l.workspace < workspace_width → 12 ≡ run_refusal l
          refused_levels h k = sym (past_files ∙ first_passes 11 _ _ (le-ltb _ _ (rw count at h)) ∙ first_fails 12 _ _ (lt-ltb _ _ k))

          pub refused_none : row_width * n ≤ length l.answers → workspace_width ≤ length l.workspace → 0 ≡ run_refusal l
          refused_none h k = sym (past_files ∙ first_passes 11 _ _ (le-ltb _ _ (rw count at h)) ∙ first_passes 12 _ _ (le-ltb _ _ k) ∙ first_end)

  -- ── the pass from filled slots ──
  module _ (from : Counts) (n : ℕ) (told : n ≡ run_refusal l) where
    total_joined : pass_refusal l from ≡ pick (eqb (run_refusal l) 0) (first_of (count_checks l from)) (run_refusal l)
    unfolding pass_refusal run_refusal
    total_joined = first_join (run_checks l) (count_checks l from) (no_zero_lem l)

    pub from_run : (n ≡ 0 → ⊥) → n ≡ pass_refusal l from
    from_run h = told ∙ sym (total_joined ∙ pick_false _ _ _ (ne_eqb _ _ (λ e. h (told ∙ e))))

    module _ (z : n ≡ 0) where
      pub past_run : pass_refusal l from ≡ first_of (count_checks l from)
      past_run = total_joined ∙ pick_true _ _ _ (eq-eqb _ _ (sym told ∙ z))

      module _ (s : ℕ) (slots : s ≡ slots_lent l.memory) where
        pub from_filled : s < from.filled → 14 ≡ pass_refusal l from
        from_filled h = sym (past_run ∙ first_fails 14 _ _ (lt-ltb _ _ (rw slots at h)))

        module _ (room : from.filled ≤ s) where
          past_filled : pass_refusal l from ≡ first_of (record { number = 19; fails = leb count_limit from.asked || leb count_limit from.anew } ∷ [])
          past_filled = past_run ∙ first_passes 14 _ _ (le-ltb _ _ (rw slots at room))

          pub from_counts : leb count_limit from.asked || leb count_limit from.anew ≡ true → 19 ≡ pass_refusal l from
          from_counts t = sym (past_filled ∙ first_fails 19 _ _ t)

          pub from_asked : count_limit ≤ from.asked → 19 ≡ pass_refusal l from
          from_asked h = from_counts (rw (le-leb _ _ h) refl)

          pub from_anew : from.asked < count_limit → count_limit ≤ from.anew → 19 ≡ pass_refusal l from
          from_anew h k = from_counts (rw (lt-leb _ _ h, le-leb _ _ k) refl)

          pub from_none : leb count_limit from.asked || leb count_limit from.anew ≡ false → 0 ≡ pass_refusal l from
          from_none t = sym (past_filled ∙ first_passes 19 _ _ t ∙ first_end)

          pub from_few : from.asked < count_limit → from.anew < count_limit → 0 ≡ pass_refusal l from
          from_few h k = from_none (rw (lt-leb _ _ h, lt-leb _ _ k) refl)

-- no refusal has the number 0
pub some_refusal : (e : Refusal) → number_of e ≡ 0 → ⊥
some_refusal e z = omega (arith, number_positive e, z)

pub ruleset run_laws = (refused_book, refused_day, refused_answers, refused_levels, refused_none, some_refusal)

pub ruleset pass_laws = (from_run, from_filled, from_asked, from_anew, from_few, some_refusal)
