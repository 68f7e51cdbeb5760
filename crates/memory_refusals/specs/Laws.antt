-- A law for each way out of the refusals of a question.
use Rattle.std.specs.Prelude.{◌≡◌, Result, Ok, Err, true, false, ◌||◌, not, [], ◌∷◌, ℕ, ◌≤◌, ◌<◌, eqb, leb, length}
use Rattle.std.specs.Result.{IsErrAnd}
use Rattle.std.proofs.Math.Path.{refl, ap}
use Rattle.std.proofs.Common.{arith, sym, ◌∙◌, eq-eqb, ne_eqb, lt-ltb, le-ltb, le-leb}
use Rattle.std.proofs.lemmas.Bool.{lt-leb}
use Rattle.lists.specs.Choice.{pick}
use Rattle.lists.specs.Checks.{first_of}
use Rattle.lists.specs.Choice.Laws.{pick_true, pick_false}
use Rattle.lists.specs.Checks.Laws.{first_fails, first_passes, first_end, first_join}
use Rattle.refusals.specs.declared.Refusal.{Refusal}
use Rattle.refusals.specs.Numbers.{number_of, refused}
use Rattle.refusals.specs.Laws.{number_positive}
use Rattle.rules.specs.Book.{book_checks, book_refusal}
use Rattle.rules.specs.Sets.{set_width}
use Rattle.rules.specs.Memory.{question_width, slots_lent}
use Rattle.rules.specs.Calls.{count_limit, QuestionLent, question_checks, question_refusal}

module _ (l : QuestionLent) where
  joined : question_refusal l ≡ pick (eqb (book_refusal l.book) 0) (first_of (question_checks l)) (book_refusal l.book)
  unfolding question_refusal book_refusal
  joined = first_join (book_checks l.book) (question_checks l) refl

  module _ (n : ℕ) (checked : n ≡ book_refusal l.book) where
    pub refused_book : (n ≡ 0 → ⊥) → n ≡ question_refusal l
    refused_book h = checked ∙ sym (joined ∙ pick_false _ _ _ (ne_eqb _ _ (λ e. h (checked ∙ e))))

    module _ (z : n ≡ 0) where
      pub past_book : question_refusal l ≡ first_of (question_checks l)
      past_book = joined ∙ pick_true _ _ _ (eq-eqb _ _ (sym checked ∙ z))

      pub refused_question : not (eqb (length l.question) question_width) || not (eqb (length l.room) set_width) ≡ true → 18 ≡ question_refusal l
      refused_question t = sym (past_book ∙ first_fails _ _ _ t)

      module _ (fits : not (eqb (length l.question) question_width) || not (eqb (length l.room) set_width) ≡ false) (s : ℕ) (lent : s ≡ slots_lent l.kept.memory) where
        pub refused_filled : s < l.kept.filled → 14 ≡ question_refusal l
        refused_filled h = sym (past_book ∙ first_passes _ _ _ fits ∙ first_fails _ _ _ (lt-ltb _ _ (rw lent at h)))

        module _ (few : l.kept.filled ≤ s) where
          past_filled : question_refusal l ≡ first_of (record { number = 19; fails = leb count_limit l.kept.anew } ∷ [])
          past_filled = past_book ∙ first_passes _ _ _ fits ∙ first_passes _ _ _ (le-ltb _ _ (rw lent at few))

          pub refused_count : count_limit ≤ l.kept.anew → 19 ≡ question_refusal l
          refused_count h = sym (past_filled ∙ first_fails _ _ _ (le-leb _ _ h))

          pub accepts : l.kept.anew < count_limit → 0 ≡ question_refusal l
          accepts h = sym (past_filled ∙ first_passes _ _ _ (lt-leb _ _ h) ∙ first_end)

  -- the book's refusal handed on by `?`
  pub refused_on : {A : Type 0} (r : Result A Refusal) (e : Refusal) → number_of e ≡ book_refusal l.book → IsErrAnd r (λ x. x ≡ e) → refused r ≡ question_refusal l
  refused_on (Ok x) e g h = absurd h
  refused_on (Err x) e g h = ap number_of h ∙ refused_book (number_of e) g (λ z. omega (arith, number_positive e))

pub ruleset question_laws = (refused_question, refused_filled, refused_count, accepts)
