-- The laws that the public call is proved by: one for each way through it.
use Rattle.std.specs.Prelude.{◌≡◌, refl, Result, Ok, Err}
use Rattle.std.specs.Result.{IsErrAnd}
use Rattle.std.proofs.Math.Path.{sym, ap}
use Rattle.std.proofs.Common.{◌∙◌, arith, eqb-true, eq-eqb, ne_eqb, ltb-false, leb-false}
use mathlib.Core.List.{List}
use Prim.Native.Nat.{ℕ, zero, suc}
use Rattle.lists.specs.Choice.Laws.{pick_true, pick_false, neither, not_not}
use Rattle.lists.specs.Checks.Laws.{first_zero}
use Rattle.refusals.specs.declared.Refusal.{Refusal}
use Rattle.refusals.specs.Numbers.{number_of}
use Rattle.refusals.specs.Laws.{number_positive}
use Rattle.rules.specs.Book.{book_refusal, states_of}
use Rattle.rules.specs.Sets.{Question}
use Rattle.rules.specs.Memory.{question_in}
use Rattle.rules.specs.Pass.{Carried, ask_next}
use Rattle.rules.specs.Calls.{QuestionLent, question_refusal, answer_question}
use Rattle.book_plan.specs.declared.State.{State}
use Rattle.book_plan.specs.Plan.{states_in, PlanOf}
use Rattle.memory_ask.specs.declared.Counts.{Counts}
use Rattle.memory_ask.specs.Ask.{carried_in, replied}
use Rattle.memory_refusals.specs.Laws.{refused_book, past_book}
use Rattle.memory_question.specs.declared.Kept.{Kept}
use Rattle.memory_question.specs.Question.{answered_of, question_returned, Answerable}

-- ── `answer_question` ──
-- the counts that a question alone starts from
abbrev counted : ℕ → ℕ → Counts
counted a f = record { asked = 0; anew = a; filled = f }

-- what it is lent
abbrev lent_so : List ℕ → List ℕ → List ℕ → List ℕ → ℕ → ℕ → QuestionLent
lent_so book w room m a f = record { book = book; question = w; room = room; kept = (carried_in m (counted a f)).kept }

module _ (book w room m : List ℕ) (a f n : ℕ) (checked : n ≡ question_refusal (lent_so book w room m a f)) where
  abbrev lent_now : QuestionLent
  lent_now = lent_so book w room m a f

  -- a refusal leaves the memory and the room for the answer as they were
  pub refuses : (n ≡ 0 → ⊥) → question_returned (record { refusal = n; anew = 0; filled = 0 }) m room ≡ answer_question lent_now
  unfolding answer_question
  refuses h = rw checked (sym (pick_false _ _ _ (ne_eqb _ _ (λ z. h (checked ∙ z)))))

  pub answers : (m' l : List ℕ) (t a' f' : ℕ) → n ≡ 0
      → replied l m' (record { asked = t; anew = a'; filled = f' }) ≡ ask_next (states_of book) (question_in w) (carried_in m (counted a f))
      → question_returned (record { refusal = 0; anew = a'; filled = f' }) m' l ≡ answer_question lent_now
  unfolding answer_question
  answers m' l t a' f' z e =
      ap (λ (x : List ℕ × Carried). record { refusal = 0; reply = record { answer = x.0; kept = x.1.kept } }) e
      ∙ sym (pick_true _ _ _ (eq-eqb _ _ (sym checked ∙ z)))

  pub book_accepted : n ≡ 0 → book_refusal book ≡ 0
  book_accepted z = go (book_refusal book) refl
    where
      go : (k : ℕ) → book_refusal book ≡ k → book_refusal book ≡ 0
      go zero d = d
      go (suc k) d = refused_book lent_now (book_refusal book) refl (λ e. omega arith) ∙ sym checked ∙ z

  pub answerable : n ≡ 0 → Answerable m (counted a f) w room
  answerable z =
      let fine : book_refusal book ≡ 0 = book_accepted z in
      let one = first_zero 18 _ _ (omega arith) (sym (past_book lent_now (book_refusal book) refl fine) ∙ sym checked ∙ z) in
      let two = first_zero 14 _ _ (omega arith) one.1 in
      let three = first_zero 19 _ _ (omega arith) two.1 in
      let sizes = neither _ _ one.0 in
      record {
        question = eqb-true _ _ (not_not _ sizes.0);
        room = eqb-true _ _ (not_not _ sizes.1);
        lent = ltb-false _ _ two.0;
        asked = omega arith;
        anew = leb-false _ _ three.0;
      }

-- a refusal handed on by `?`
pub refuses_on : (book w room m : List ℕ) (a f : ℕ) (r : Result Kept Refusal) (e : Refusal) → number_of e ≡ question_refusal (lent_so book w room m a f)
    → IsErrAnd r (λ x. x ≡ e) → question_returned (answered_of r) m room ≡ answer_question (lent_so book w room m a f)
refuses_on book w room m a f (Ok k) e g h = absurd h
refuses_on book w room m a f (Err x) e g h = rw h (refuses book w room m a f (number_of e) g (λ z. omega (arith, number_positive e)))

-- ── `ask_alone`: the plan's states are the book's ──
pub asks_book : (book : List ℕ) (p : List State) (q : Question) (c : Carried) (r : List ℕ × Carried) → PlanOf p book → r ≡ ask_next (states_in p) q c
    → r ≡ ask_next (states_of book) q c
asks_book book p q c r made e = rw (← made.states) e
