-- The pass from filled slots and the inner call, refused and accepted, proved by computation. Section "Questions and
-- the memory"; refusals 18
-- and 19 are in docs/DECISIONS.md.
use Rattle.std.specs.Prelude.{◌≡◌, refl, List, [], ◌∷◌, ◌++◌, map, ℕ, ◌-◌, ◌^◌, ◌+◌, replicate, take}
use Rattle.rules.specs.Memory.{question_width as w, slot_width, key_of}
use Rattle.rules.proofs.Memory.Examples.{numbers, asks}
use Rattle.rules.proofs.Pass.Examples.{book, day, slot}
use Rattle.rules.specs.Run.{workspace_width, Lent}
use Rattle.rules.proofs.Run.Examples.{lending, ran, kept}
use Rattle.rules.specs.Calls.{
  counts,
  carried_from,
  pass_refusal,
  pass_from,
  QuestionLent,
  QuestionReturned,
  question_refusal,
  answer_question,
}

-- ── the pass ──
pub counted : counts 4 5 6 ≡ record { asked = 4; anew = 5; filled = 6 }
counted = refl

pub carries : carried_from (record { asked = 4; anew = 5; filled = 6 }) (7 ∷ 8 ∷ [])
    ≡ record { asked = 4; kept = record { memory = 7 ∷ 8 ∷ []; anew = 5; filled = 6 } }
carries = refl

-- 14: more slots filled than the two lent; 19: a count of 2^63; both: 14
pub counts_off : map (pass_refusal (lending book day 9 workspace_width)) (
    counts 0 0 0 ∷ counts 0 0 2 ∷ counts 0 0 3 ∷ counts (2 ^ 63 - 1) 0 0 ∷ counts (2 ^ 63) 0 0 ∷
    counts 0 (2 ^ 63 - 1) 0 ∷ counts 0 (2 ^ 63) 0 ∷ counts (2 ^ 63) 0 3 ∷ [])
    ≡ 0 ∷ 0 ∷ 14 ∷ 0 ∷ 19 ∷ 0 ∷ 19 ∷ 14 ∷ []
unfolding ran pass_refusal
counts_off = refl

-- after the run's refusals
pub after_run : map (λ (l : Lent). pass_refusal l (counts 0 0 3)) (lending book day 8 workspace_width ∷ lending book day 9 (workspace_width - 1) ∷
    lending [] day 9 workspace_width ∷ []) ≡ 11 ∷ 12 ∷ 1 ∷ []
unfolding ran pass_refusal
after_run = refl

-- "from any filled slots, wrong answers and all": a slot that says of 2 that it makes states 3 and 5 match
abbrev pub wrong : Lent
wrong = record {
  book = book;
  day = day;
  memory = slot 4 2 40 ++
      replicate (slot_width + 1) 6;
  answers = replicate 10 9;
  workspace = replicate (workspace_width + 1) 5;
}

pub passes : pass_from wrong (counts 40 30 1) ∷ pass_from (lending book day 9 workspace_width) (counts 40 30 3) ∷
    pass_from (lending book day 8 workspace_width) (counts 40 30 0) ∷ []
    ≡ record {
      refusal = 0;
      asked = 45;
      anew = 32;
      filled = 2;
      memory = slot 4 2 40 ++ (slot 40 1 16 ++ 6 ∷ []);
      answers = 0 ∷ 0 ∷ 0 ∷ 21 ∷ 6 ∷ 0 ∷ 0 ∷ 0 ∷ 0 ∷ 9 ∷ [];
      workspace = replicate workspace_width 0 ++ 5 ∷ [];
    } ∷ kept 14 9 workspace_width ∷ kept 11 8 workspace_width ∷ []
unfolding ran pass_refusal pass_from
passes = refl

-- ── the inner call ──
-- a question of n numbers and room of k, two slots lent
abbrev pub asking : List ℕ → ℕ → ℕ → ℕ → ℕ → QuestionLent
asking b n k anew filled = record {
  book = b;
  question = take n (key_of (asks 4 2) ++ 0 ∷ []);
  room = replicate k 9;
  kept = record { memory = slot 4 3 0 ++ (slot 4 2 40 ++ 6 ∷ []); anew = anew; filled = filled };
}

unfoldable pub refusal_of : QuestionLent → ℕ
unfolding ran question_refusal
refusal_of l = question_refusal l

-- 18: the question is not nine numbers, or the room for the answer not eight; 14: more slots filled than lent; 19: a
-- count of 2^63; of several the first in this order, and the book's before all
pub questions_off : map refusal_of (
    asking book w 8 0 0 ∷ asking book (w - 1) 8 0 0 ∷ asking book (w + 1) 8 0 0 ∷ asking book w 7 0 0 ∷ asking book w 9 0 0 ∷
    asking book w 8 0 2 ∷ asking book w 8 0 3 ∷ asking book w 8 (2 ^ 63 - 1) 0 ∷ asking book w 8 (2 ^ 63) 0 ∷
    asking book (w - 1) 8 0 3 ∷ asking book w 8 (2 ^ 63) 3 ∷ asking [] (w - 1) 8 0 3 ∷ [])
    ≡ 0 ∷ 18 ∷ 18 ∷ 18 ∷ 18 ∷ 0 ∷ 14 ∷ 0 ∷ 19 ∷ 18 ∷ 14 ∷ 1 ∷ []
unfolding refusal_of
questions_off = refl

-- the second slot's wrong answer is given; with one slot filled the answer is worked out and kept; refused, room and
-- memory stay and the counts are 0
abbrev pub returned : ℕ → List ℕ → List ℕ → ℕ → ℕ → QuestionReturned
returned e a m anew filled = record {
  refusal = e;
  reply = record { answer = a; kept = record { memory = m; anew = anew; filled = filled } };
}

abbrev pub memory : List ℕ
memory = slot 4 3 0 ++ (slot 4 2 40 ++ 6 ∷ [])

pub answers : map answer_question (asking book w 8 30 2 ∷ asking book w 8 30 1 ∷ asking book w 7 30 2 ∷
    asking [] w 8 30 2 ∷ [])
    ≡ returned 0 (numbers 40) memory 30 2 ∷
    returned 0 (numbers 2) (slot 4 3 0 ++ (slot 4 2 2 ++ 6 ∷ [])) 31 2 ∷
    returned 18 (replicate 7 9) memory 0 0 ∷
    returned 1 (replicate 8 9) memory 0 0 ∷ []
unfolding refusal_of answer_question
answers = refl
