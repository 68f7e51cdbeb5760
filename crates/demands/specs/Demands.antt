-- The three demands: a record each, a field a sentence. proofs/Demands.antt has a theorem each: every outcome g which
-- the run's promise allows for what l lends has it. What must be believed is the records, and the definitions that they name:
--   in this crate, specs/Words;
--   in crate rules, specs/ ASmallDay, Bytes, State, Book, DayFile, Value, Written, Message, MessageTable, Tree, Match,
--   Order, Sets, Memory, Pass, Asked, Run, Calls, Promise;
--   in crate lists, specs/ Choice, Parts, Below, Checks, Same.
-- Nothing in proofs/ need be believed.
-- tests/believed.py follows the names, and counts.
use mathlib.Core.{Path.◌≡◌, Bool.Bool, Bool.true, Logic.◌↔◌, List.List, List.[], List.◌++◌}
use Rattle.std.specs.Prelude.{ℕ, ◌+◌, ◌*◌, ◌<◌, length, drop, replicate}
use Rattle.lists.specs.Checks.{FirstToFail}
use Rattle.rules.specs.{State.State, Book.filter_count, Book.states_before, Book.states_of, Book.Meaning, Book.meaning_of, DayFile.message_count, DayFile.message_body}
use Rattle.rules.specs.{Tree.Content, Match.matches, Match.accepted_filters, Match.MatchRule, Message.Event, MessageTable.root_alone, MessageTable.opens_after, MessageTable.message_rows}
use Rattle.rules.specs.{Written.written, Written.message_shaped, Written.AreBytes, Written.written_events, Written.IsMessage, Written.Begins, Written.Stuck}
use Rattle.rules.specs.{Sets.bit_at, Sets.Question, Sets.either, Memory.slot_width, Memory.FirstToAsk, Memory.slot_answer, Memory.slots_written, Memory.Kept, Memory.ask}
use Rattle.rules.specs.{Pass.Carried, Pass.asking, Pass.pass_to, Pass.pass_questions_to, Pass.after_asking, Run.row_width, Run.workspace_width, Run.Lent, Run.Returned, Run.run_checks, Run.with_memory, Promise.RunPromise}
use Rattle.rules.specs.{Asked.message_row, Asked.not_kept, Asked.HeldRight, Asked.nodes_to, Asked.day_nodes}
use Rattle.demands.specs.Words.{MessageAnswered, row_of, refusal_of, place_for, filters_of, meaning, root_of, Permuted, C, questions, kept_questions}

-- ── demand 1 ──
pub record Demand1 (l : Lent) (g : Returned) : Type 0 where
  -- "Every filter book, day file and lent memory gets an answer": there is one, and it is the only one.
  pub some_answer : (h : Returned) × RunPromise l h
  pub one_answer : (h : Returned) → RunPromise l h → h ≡ g
  -- "A bad book, a bad day file or too little lent memory is refused by number": by n exactly if a row of the refusal
  -- table with this number fails and no row before it in the table does.
  pub refused_exactly : (n : ℕ) → 0 < n → (g.refusal ≡ n) ↔ FirstToFail (run_checks l) n
  -- "and nothing lent is altered"; the counts are 0.
  pub refused_keeps : (g.refusal ≡ 0 → ⊥) →
      (g.memory ≡ l.memory) × (g.answers ≡ l.answers) × (g.workspace ≡ l.workspace) × (g.asked ≡ 0) × (g.anew ≡ 0) × (g.filled ≡ 0)
  -- A run that is not refused leaves the answers past its messages as they were, the levels of the workspace 0 and
  -- the rest as it was.
  pub past_kept : g.refusal ≡ 0 →
      (drop (row_width * message_count l.day) g.answers ≡ drop (row_width * message_count l.day) l.answers) ×
      (g.workspace ≡ replicate workspace_width 0 ++ drop workspace_width l.workspace)
  -- "a bad message is refused by number and place": by n at a place exactly if the events before it begin some readable
  -- message and, with these events before it, a row n of the message's table fails and no row before it in the table.
  pub refused_row : (k : ℕ) → MessageAnswered l g k → AreBytes l.day → (evs : List Event) (rest : List ℕ) →
      message_body l.day k ≡ written_events evs ++ rest → (n : ℕ) → 0 < n →
      ((refusal_of g k ≡ n) × (place_for g k ≡ length (written_events evs)))
      ↔ (Begins (meaning l) (written_events evs) × FirstToFail (message_rows (meaning l) (opens_after root_alone evs) rest) n)
  -- And without the table: at a place exactly if the events before it begin some readable message, the message is none
  -- itself, and none begins with them and the event there. (Where no whole event stands there, which is 22 and 29, the
  -- last part says nothing: a message cut short may begin a readable one. Of 21 see Place.no_kind.)
  pub refused_there : (k : ℕ) → MessageAnswered l g k → AreBytes l.day → (evs : List Event) (rest : List ℕ) →
      message_body l.day k ≡ written_events evs ++ rest →
      ((0 < refusal_of g k) × (place_for g k ≡ length (written_events evs)))
      ↔ (Begins (meaning l) (written_events evs) × (IsMessage (meaning l) (message_body l.day k) → ⊥) × Stuck (meaning l) evs rest)
  -- Every refused message has such events before its place.
  pub refused_where : (k : ℕ) → MessageAnswered l g k → AreBytes l.day → 0 < refusal_of g k →
      (evs : List Event) × (rest : List ℕ) × (message_body l.day k ≡ written_events evs ++ rest) ×
      (place_for g k ≡ length (written_events evs))
  -- "A message that is read has refusal 0 and place 0."
  pub read_place : (k : ℕ) → MessageAnswered l g k → refusal_of g k ≡ 0 → place_for g k ≡ 0
  -- "matches no filter".
  pub refused_message : (k : ℕ) → MessageAnswered l g k → (refusal_of g k ≡ 0 → ⊥) → filters_of g k ≡ 0
  -- "and the messages after it are still read": a message's row follows from the book and its own bytes, and no other
  -- message, no C and nothing lent before enters; so the same bytes have the same row in any two runs with the same
  -- book.
  pub row_alone : (k : ℕ) → MessageAnswered l g k → row_of g k ≡ message_row l.book (message_body l.day k)
  pub same_bytes : (k : ℕ) → MessageAnswered l g k → {m : Lent} {h : Returned} {j : ℕ} → MessageAnswered m h j → l.book ≡ m.book →
      message_body l.day k ≡ message_body m.day j → row_of g k ≡ row_of h j

-- ── demand 2 ──
pub record Demand2 (l : Lent) (g : Returned) (k : ℕ) : Type 0 where
  -- "For each message read": it is read to a tree exactly if its bytes are that tree's events written out, and the
  -- tree has the shape of a message. (The day file is one of bytes.)
  pub read_exactly : AreBytes l.day → (root : Content) →
      ((refusal_of g k ≡ 0) × (root_of (meaning l) (message_body l.day k) ≡ root)) ↔ ((message_body l.day k ≡ written root.children) × (message_shaped (meaning l) root ≡ true))
  -- "the filters reported are exactly those whose alternating automaton, by the written match rule, accepts the
  -- message's tree": as one number, and filter by filter.
  pub filters_exactly : refusal_of g k ≡ 0 → filters_of g k ≡ accepted_filters l.book (root_of (meaning l) (message_body l.day k))
  pub filter_exactly : refusal_of g k ≡ 0 → (i : ℕ) → i < filter_count l.book →
      bit_at (filters_of g k) i ≡ matches (meaning l) (root_of (meaning l) (message_body l.day k)) (states_before l.book i)
  -- The match rule has one reading: any function with its laws, state kind by state kind, is `matches`.
  pub one_reading : (m : Content → ℕ → Bool) → MatchRule (meaning l) m → (n : Content) (j : ℕ) → j < length (states_of l.book) →
      m n j ≡ matches (meaning l) n j
  -- "Two readable messages that differ only in the order of an element's attributes or child elements get the same
  -- filters."
  pub any_order : {m : Lent} {h : Returned} {j : ℕ} → MessageAnswered m h j → l.book ≡ m.book → refusal_of g k ≡ 0 → refusal_of h j ≡ 0 →
      Permuted (root_of (meaning l) (message_body l.day k)) (root_of (meaning m) (message_body m.day j)) → filters_of g k ≡ filters_of h j

-- ── demand 3 ──
pub record Demand3 (l : Lent) (g : Returned) : Type 0 where
  -- "a question the memory holds gets its kept answer", right or wrong, and nothing changes: at the inner call, for
  -- any slots. Slot i is the first that asks q.
  pub kept_answer : (b : List State) (q : Question) (k : Kept) (i : ℕ) → FirstToAsk k.memory k.filled q i →
      ask b q k ≡ record { answer = slot_answer k.memory i; kept = k }
  -- The run gets each answer from the inner call alone, called once a question, and joins it as it stands to the
  -- parent's set. By opening Pass.ask_and_join.
  pub answer_joined : (b : Meaning) (x : ℕ) (set up : List ℕ) (c : Carried) → let r = ask b.states (record { states = set; label = x }) c.kept in
      (asking b).shut x set up c ≡ (either up r.answer, record { asked = c.asked + 1; kept = r.kept })
  -- Over the whole pass, from any filled slots: what is carried after n messages is what was carried before and the inner
  -- call asked their questions in turn, each on the memory and the counts as the call before left them, each once; and
  -- they are as many as the nodes that closed in those messages.
  pub asked_in_turn : (book day : List ℕ) (c : Carried) (n : ℕ) → let qs = pass_questions_to (meaning_of book) day c.kept n in
      ((pass_to book day c n).carried ≡ after_asking (states_of book) c qs) × (length qs ≡ length (nodes_to (meaning_of book) day n))
  -- The count asked is the number of the day file's questions, those of refused messages included.
  pub asked_is : g.refusal ≡ 0 → g.asked ≡ length (questions l)
  -- "answers worked out anew number exactly the questions not among the first C different ones asked earlier in that
  -- file".
  pub anew_is : g.refusal ≡ 0 → g.anew ≡ not_kept (C l) [] (questions l)
  -- "Afterwards the memory holds just the first C different questions (all, if fewer), in order of first asking";
  -- memory past them is as it was.
  pub memory_is : g.refusal ≡ 0 → (g.filled ≡ length (kept_questions l)) ×
      (g.memory ≡ slots_written (states_of l.book) (kept_questions l) ++ drop (slot_width * length (kept_questions l)) l.memory)
  -- "with their right answers": each slot holds the question of a node that closed in the day file, and that node's
  -- right answer by the match rule.
  pub answers_right : g.refusal ≡ 0 → (i : ℕ) → i < g.filled → HeldRight (meaning l) (day_nodes (meaning l) l.day) g.memory i
  -- "Any other C", that is any other memory lent, "gives the same filters and refusals": the run's number, and every
  -- answer.
  pub any_memory : (m : List ℕ) (h : Returned) → RunPromise (with_memory l m) h →
      (h.refusal ≡ g.refusal) × (h.answers ≡ g.answers) × (h.asked ≡ g.asked)
