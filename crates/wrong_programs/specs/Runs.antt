-- Section "What has to be nailed to the definitions": what each wrong program gives for three messages of the small
-- day. All but the wrong part is as the run gives it, so it is this part that proofs/Runs.antt shows refused by the
-- run's promise.
use Rattle.std.specs.Prelude.{List, [], ◌∷◌, ◌++◌, ℕ, zero, suc, ◌+◌, ◌*◌, eqb, get_or, drop, replicate}
use Rattle.lists.specs.Choice.{pick}
use Rattle.lists.specs.Parts.{part}
use Rattle.rules.specs.State.{State}
use Rattle.rules.specs.Book.{Meaning, out_of_range}
use Rattle.rules.specs.DayFile.{message_count}
use Rattle.rules.specs.Message.{Keeper}
use Rattle.rules.specs.Sets.{Question, no_states, either, work_out}
use Rattle.rules.specs.Memory.{slot_width, Kept, Reply, ask}
use Rattle.rules.specs.Pass.{Carried, join_text}
use Rattle.rules.specs.Run.{row_width, Lent, Returned, refused_run, run}
use Rattle.rules.proofs.ASmallDay.Examples.{lending, wrong_slot}
use Rattle.rules.specs.ASmallDay as Small

-- ── words ──
-- a day of messages 3 and 4 of the small day, and 4 again: service with day 6 and an empty call, service, service
abbrev pub day : List ℕ
day = 3 ∷ 0 ∷
    26 ∷ 0 ∷ 0 ∷ 0 ∷ 21 ∷ 0 ∷ 0 ∷ 0 ∷ 47 ∷ 0 ∷ 0 ∷ 0 ∷ 6 ∷ 0 ∷ 0 ∷ 0 ∷ 53 ∷ 0 ∷ 0 ∷ 0 ∷ 6 ∷ 0 ∷ 0 ∷ 0 ∷
    1 ∷ 1 ∷ 0 ∷ 1 ∷ 4 ∷ 128 ∷ 2 ∷ 1 ∷ 54 ∷ 3 ∷ 4 ∷ 128 ∷ 1 ∷ 2 ∷ 0 ∷ 3 ∷ 2 ∷ 0 ∷ 3 ∷ 1 ∷ 0 ∷
    1 ∷ 1 ∷ 0 ∷ 3 ∷ 1 ∷ 0 ∷ 1 ∷ 1 ∷ 0 ∷ 3 ∷ 1 ∷ 0 ∷ []

-- lent with 4 slots, and what the run gives for it: rows 0 0 6, 0 0 2 and 0 0 2, 5 questions, 4 of them worked out anew
abbrev pub small : Lent
small = lending (record { book = Small.book; day = day; slots = 4; expected = [] })

abbrev pub right : Returned
right = run small

-- right but for what is named; for the answers; for the count worked out anew
abbrev pub giving : ℕ → List ℕ → List ℕ → List ℕ → Returned
giving anew memory answers workspace =
    record { refusal = right.refusal; asked = right.asked; anew = anew; filled = right.filled; memory = memory; answers = answers; workspace = workspace }

abbrev pub with_answers : List ℕ → Returned
with_answers answers = giving right.anew right.memory answers right.workspace

abbrev pub with_anew : ℕ → Returned
with_anew anew = giving anew right.memory right.answers right.workspace

-- the rows of the messages before message k, and the answers that have all rows and end as they were lent
abbrev pub rows_by : (ℕ → List ℕ) → ℕ → List ℕ
rows_by row zero = []
rows_by row (suc k) = rows_by row k ++ row k

abbrev pub answers_by : (ℕ → List ℕ) → List ℕ
answers_by row = rows_by row (message_count day) ++ drop (row_width * message_count day) small.answers

-- ── refusing each run, by whatever number: shut out by the refusal table ──
abbrev pub refusing : ℕ → Returned
refusing e = refused_run small (suc e)

-- ── reporting one fixed set f of every message that is read, or no filter: demand 2; messages 1 and 2 have different
-- ones, and neither has none ──
abbrev pub fixed_set : ℕ → Returned
fixed_set f = with_answers (answers_by (λ k. get_or right.answers (row_width * k) 0 ∷ get_or right.answers (row_width * k + 1) 0 ∷ pick (eqb (get_or right.answers (row_width * k) 0) 0) f 0 ∷ []))

abbrev pub no_filter : Returned
no_filter = fixed_set 0

-- ── writing nothing: demand 2; of the answers lent message 1 would have refusal 9 ──
abbrev pub writing_nothing : Returned
writing_nothing = giving right.anew small.memory small.answers small.workspace

-- ── matching the first message and copying its row: demand 2; message 2 has filter 20, not 20 and 30 ──
abbrev pub first_copied : Returned
first_copied = with_answers (answers_by (λ k. part right.answers 0 row_width))

-- ── counting every question as anew, or none: demand 3; 4 of 5 are ──
abbrev pub every_anew : Returned
every_anew = with_anew right.asked

abbrev pub none_anew : Returned
none_anew = with_anew 0

-- ── working every question out, and keeping and counting as if kept answers had been used ──
abbrev pub working_out : List State → Question → Kept → Reply
working_out b q k = record { answer = work_out b q; kept = (ask b q k).kept }

-- one filled slot says, wrongly, of an empty element 2 that it makes all 512 states match
abbrev pub wrong : Kept
wrong = record { memory = wrong_slot ++ replicate slot_width 7; anew = 0; filled = 1 }

abbrev pub empty_two : Question
empty_two = record { states = no_states; label = 2 }

-- the pass, with every question worked out
abbrev pub asking_worked_out : Meaning → Keeper (List ℕ) Carried
asking_worked_out b = record {
  fresh = no_states;
  bars = out_of_range b;
  said = join_text b;
  shut = λ x set up c.
      let r : Reply = working_out b.states (record { states = set; label = x }) c.kept in
      (either up r.answer, record { asked = c.asked + 1; kept = r.kept });
}

-- element 1 that holds an empty element 2
abbrev pub two_in_one : List ℕ
two_in_one = 1 ∷ 1 ∷ 0 ∷ 1 ∷ 2 ∷ 0 ∷ 3 ∷ 2 ∷ 0 ∷ 3 ∷ 1 ∷ 0 ∷ []

abbrev pub from_wrong : Carried
from_wrong = record { asked = 0; kept = wrong }
