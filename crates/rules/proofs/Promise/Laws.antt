-- What each promise allows is there: the outcome that its definition names. With the theorem beside each promise, that
-- two outcomes coincide, this outcome and no other is allowed.
use Rattle.std.specs.Prelude.{◌≡◌, refl, List, ℕ, ◌+◌}
use Rattle.std.specs.Borrow.{Bor, MutBor}
use denote.Triple.Both.{Both}
use Rattle.lists.specs.Lending.{was, held}
use Rattle.rules.specs.Book.{book_refusal, body_of, part_of}
use Rattle.rules.specs.DayFile.{day_refusal}
use Rattle.rules.specs.Run.{Lent, run}
use Rattle.rules.specs.Calls.{Counts, pass_from, QuestionLent, answer_question}
use Rattle.rules.specs.Promise.{
  lent,
  RunPromise,
  PassPromise,
  QuestionPromise,
  BodyPromise,
  PartPromise,
  BookPromise,
  DayPromise,
}

pub the_run : (l : Lent) → RunPromise l (run l)
the_run l = refl

pub the_pass : (l : Lent) (c : Counts) → PassPromise l c (pass_from l c)
the_pass l c = refl

pub the_reply : (l : QuestionLent) → QuestionPromise l (answer_question l)
the_reply l = refl

pub the_body : (book : Bor (List ℕ)) (id : ℕ) → BodyPromise book id (record {
  ref_ptr = (book.ref_ptr.0, book.ref_ptr.1 + (part_of book.now id).start);
  now = body_of book.now id;
})
the_body book id = refl

pub the_part : (book : List ℕ) (id : ℕ) → PartPromise book id (part_of book id)
the_part book id = refl

pub the_book : (book : List ℕ) → BookPromise book (book_refusal book)
the_book book = refl

pub the_day : (day : List ℕ) → DayPromise day (day_refusal day)
the_day day = refl

-- each slice of a call is lent under its own name, whatever lends it
pub lent_are : (b d m a w : List ℕ) → lent b d m a w ≡ record { book = b; day = d; memory = m; answers = a; workspace = w }
lent_are b d m a w = refl

-- as it was when the call began
abbrev pub Shown : Type 0
Shown = Both (Bor (List ℕ)) (Bor (List ℕ))

abbrev pub Slice : Type 0
Slice = Both (MutBor (List ℕ)) (MutBor (List ℕ))

pub lent_began : (b d : Shown) (m a w : Slice) →
    lent (held b) (held d) (was m) (was a) (was w) ≡ record { book = held b; day = held d; memory = was m; answers = was a; workspace = was w }
lent_began b d m a w = lent_are (held b) (held d) (was m) (was a) (was w)
