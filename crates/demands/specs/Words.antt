-- The words of Demands.antt, each short for what the definitions say.
use Rattle.std.specs.Prelude.{◌≡◌, List, ℕ, ◌+◌, ◌*◌, ◌<◌, get_or, set}
use Rattle.lists.specs.Parts.{part}
use Rattle.rules.specs.Book.{Meaning, meaning_of}
use Rattle.rules.specs.DayFile.{message_count, message_body}
use Rattle.rules.specs.Tree.{Content}
use Rattle.rules.specs.Asked.{read_tree, day_questions, first_different}
use Rattle.rules.specs.Sets.{Question}
use Rattle.rules.specs.Memory.{slots_lent}
use Rattle.rules.specs.Run.{row_width, Lent, Returned}
use Rattle.rules.specs.Promise.{RunPromise}
use Rattle.rules.specs.Order.{Reordered}
use Rattle.rules.specs.ASmallDay as Small

-- the promise allows g for l, the run is not refused, and k is one of its messages (message 1 of the paper is k = 0)
pub record MessageAnswered (l : Lent) (g : Returned) (k : ℕ) : Type 0 where
  pub promised : RunPromise l g
  pub accepted : g.refusal ≡ 0
  pub within : k < message_count l.day

-- the three answer numbers of message k; its refusal, its place and its filters
abbrev pub row_of : Returned → ℕ → List ℕ
row_of g k = part g.answers (row_width * k) row_width

abbrev pub refusal_of : Returned → ℕ → ℕ
refusal_of g k = get_or g.answers (row_width * k) 0

abbrev pub place_for : Returned → ℕ → ℕ
place_for g k = get_or g.answers (row_width * k + 1) 0

abbrev pub filters_of : Returned → ℕ → ℕ
filters_of g k = get_or g.answers (row_width * k + 2) 0

-- what the book means to a message
abbrev pub meaning : Lent → Meaning
meaning l = meaning_of l.book

-- the root that a message's bytes are read to
abbrev pub root_of : Meaning → List ℕ → Content
root_of b body = (read_tree b body).root

-- a message with its children, at any depth, in another order
abbrev pub Permuted : Content → Content → Type 0
Permuted c d = (c.text ≡ d.text) × Reordered c.children d.children

-- C; the questions of the day file, in the order asked; the first C different ones of them
abbrev pub C : Lent → ℕ
C l = slots_lent l.memory

abbrev pub questions : Lent → List Question
questions l = day_questions l.book l.day

abbrev pub kept_questions : Lent → List Question
kept_questions l = first_different (C l) (questions l)

-- messages 1 and 2 of the small day; message 1 with its first `late`, label 3, renamed to 4
abbrev pub small_one : List ℕ
small_one = message_body Small.day 0

abbrev pub small_two : List ℕ
small_two = message_body Small.day 1

abbrev pub small_renamed : List ℕ
small_renamed = set (set small_one 16 4) 22 4
