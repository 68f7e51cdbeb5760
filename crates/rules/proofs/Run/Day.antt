-- The whole day by its trees: the rows, the counts and the memory that a run gives, with neither the pass nor the inner call in them.
-- Sections "Questions and the memory" and "Refusal numbers".
use Rattle.std.specs.Prelude.{◌≡◌, refl, Bool, true, false, ◌||◌, List, [], ◌∷◌, ◌++◌, ℕ, zero, suc, ◌*◌, ◌≤◌, ◌<◌, eqb, length, get_or, take, drop, replicate}
use Rattle.std.proofs.Common.{sym, ◌∙◌, ap, true≢false, append_assoc, not-suc-le-zero, arith, length-append, drop_at, ltb-false}
use Rattle.std.proofs.lemmas.Bool.{false≢true}
use Rattle.std.proofs.lemmas.List.{map-append}
use Rattle.std.proofs.Math.Decide.{dec_lt}
use Rattle.lists.specs.Parts.{part}
use Rattle.lists.specs.Below.{some_below}
use Rattle.lists.specs.Below.Laws.{up_to_long}
use Rattle.rules.specs.Book.{most_states, filter_count, body_size, states_before, bad_sizes, states_of_first, states_of, Meaning, meaning_of}
use Rattle.rules.specs.DayFile.{message_count, message_body}
use Rattle.rules.specs.Tree.{Node}
use Rattle.rules.specs.Sets.{Question, work_out}
use Rattle.rules.specs.Memory.{slot_width, key_of, slots_lent, slots_written, ask_all}
use Rattle.rules.specs.Pass.{Passed, pass_message, answer_row, pass_to}
use Rattle.rules.specs.Run.{row_width, workspace_width, Lent, Returned, run_refusal, pass_day, at_first, run, with_memory}
use Rattle.rules.specs.Asked.{read_tree, question_of, message_questions, questions_to, day_questions, same_question, is_among, different, first_different, not_kept, message_row, nodes_to, HeldRight, day_nodes, tree_rows}
use Rattle.rules.proofs.Run.Laws.{accepted_row, run_accepted, run_refused}
use Rattle.rules.proofs.Match.Laws.{work_is_right}
use Rattle.rules.proofs.Asked.Different.{same_eq, among_at, members}
use Rattle.rules.proofs.Memory.FirstC.{Eight, eight_first, written_question, written_answer, kept_is}
use Rattle.rules.proofs.Pass.Laws.{node_questions, nodes_eight, after, pass_tree, row_is}

-- ── an accepted book has no more states than it may ──
pub states_long : (b : List ℕ) (k : ℕ) → length (states_of_first b k) ≡ states_before b k
unfolding states_of_first states_before
states_long b zero = refl
states_long b (suc k) = rw (length-append, states_long b k, up_to_long)

or_right : (a b : Bool) → a || b ≡ false → b ≡ false
or_right true b e = absurd (true≢false e)
or_right false b e = e

pub few_states : (l : Lent) → run_refusal l ≡ 0 → length (states_of l.book) ≤ most_states
unfolding states_of bad_sizes
few_states l e =
    let b : bad_sizes l.book ≡ false = accepted_row l e 4 in
    rw (states_long l.book (filter_count l.book)) (ltb-false _ _ (or_right (some_below (λ k. eqb (body_size l.book k) 0) (filter_count l.book)) _ b))

-- the questions asked are theirs
pub questions_nodes : (b : Meaning) (day : List ℕ) (k : ℕ) → questions_to b day k ≡ node_questions b (nodes_to b day k)
unfolding questions_to nodes_to message_questions
questions_nodes b day zero = refl
questions_nodes b day (suc k) =
    ap (λ qs. qs ++ message_questions b (message_body day k)) (questions_nodes b day k) ∙ sym (map-append (question_of b) (nodes_to b day k) (read_tree b (message_body day k)).state)

-- the pass over them, begun with no slot filled
pub pass_to_lem : (book day m : List ℕ) → length (states_of book) ≤ most_states → (k : ℕ) →
    pass_to book day (at_first m) k ≡ record { rows = tree_rows book day k; carried = after (meaning_of book) m (nodes_to (meaning_of book) day k) }
unfolding pass_to nodes_to ask_all
pass_to_lem book day m few zero = refl
pass_to_lem book day m few (suc k) =
    ap (λ p. next p) (pass_to_lem book day m few k) ∙ λ i. record {
      rows = tree_rows book day k ++ (row_is book few m (message_body day k) (nodes_to (meaning_of book) day k)) i;
      carried = (ap (λ o. o.state) (pass_tree (meaning_of book) few m (message_body day k) (nodes_to (meaning_of book) day k))) i;
    }
  where
    next : Passed → Passed
    next p = record {
      rows = p.rows ++ answer_row book (pass_message (meaning_of book) (message_body day k) p.carried);
      carried = (pass_message (meaning_of book) (message_body day k) p.carried).state;
    }

-- ── the run ──
-- what a run that is not refused gives: the questions asked, the first C different ones kept, and each message's row
unfoldable pub day_returned : Lent → Returned
day_returned l =
    let qs : List Question = day_questions l.book l.day in
    let C : ℕ = slots_lent l.memory in
    record {
      refusal = 0;
      asked = length qs;
      anew = not_kept C [] qs;
      filled = length (first_different C qs);
      memory = slots_written (states_of l.book) (first_different C qs) ++ drop (slot_width * length (first_different C qs)) l.memory;
      answers = tree_rows l.book l.day (message_count l.day) ++ drop (row_width * message_count l.day) l.answers;
      workspace = replicate workspace_width 0 ++ drop workspace_width l.workspace;
    }

pub day_is : (l : Lent) → run_refusal l ≡ 0 → run l ≡ day_returned l
unfolding day_returned day_questions pass_day
day_is l e =
    let b : Meaning = meaning_of l.book in
    let N : ℕ = message_count l.day in
    let eight : Eight (questions_to b l.day N) = rw (questions_nodes b l.day N) (nodes_eight b (nodes_to b l.day N)) in
    run_accepted l e
    ∙ rw (pass_to_lem l.book l.day l.memory (few_states l e) N, ← questions_nodes b l.day N, kept_is b.states l.memory (questions_to b l.day N) eight)

pub refusal_apart : (l : Lent) (m : List ℕ) → run_refusal (with_memory l m) ≡ run_refusal l
unfolding run_refusal
refusal_apart l m = refl

-- the run's number, every answer and the count asked are the same
pub memory_apart : (l : Lent) (m : List ℕ) →
    ((run (with_memory l m)).refusal ≡ (run l).refusal) × ((run (with_memory l m)).answers ≡ (run l).answers) × ((run (with_memory l m)).asked ≡ (run l).asked)
unfolding day_returned
memory_apart l m = go (run_refusal l) refl
  where
    go : (n : ℕ) → run_refusal l ≡ n →
        ((run (with_memory l m)).refusal ≡ (run l).refusal) × ((run (with_memory l m)).answers ≡ (run l).answers) × ((run (with_memory l m)).asked ≡ (run l).asked)
    go zero e = rw (day_is l e, day_is (with_memory l m) (refusal_apart l m ∙ e)) (refl, refl, refl)
    go (suc n) e = rw (run_refused l n e, run_refused (with_memory l m) n (refusal_apart l m ∙ e)) (refl, refl, refl)

-- ── the rows, message by message ──
pub rows_long : (book day : List ℕ) (n : ℕ) → length (tree_rows book day n) ≡ row_width * n
rows_long book day zero = refl
rows_long book day (suc n) = rw (length-append, rows_long book day n) (omega arith)

-- message k's row stands at its place, whatever follows the rows
pub row_at : (book day rest : List ℕ) (n k : ℕ) → k < n → part (tree_rows book day n ++ rest) (row_width * k) row_width ≡ message_row book (message_body day k)
unfolding part
row_at book day rest zero k h = absurd (not-suc-le-zero h)
row_at book day rest (suc n) k h = elim (dec_lt k n) [
  | yes l ↦ rw append_assoc (row_at book day (message_row book (message_body day n) ++ rest) n k l)
  | no l ↦ let e : k ≡ n = omega arith in
      rw (e, append_assoc, drop_at (tree_rows book day n) (message_row book (message_body day n) ++ rest) (row_width * n) (rows_long book day n))
]

-- a question that is among those of some nodes is one node's
asked_by : (b : Meaning) (ns : List Node) (q : Question) → is_among q (node_questions b ns) ≡ true →
    (n : Node) × (j : ℕ) × (j < length ns) × (get_or ns j n ≡ n) × (q ≡ question_of b n)
unfolding is_among
asked_by b [] q e = absurd (false≢true e)
asked_by b (n ∷ ns) q e = go (same_question q (question_of b n)) refl e (asked_by b ns q)
  where
    go : (t : Bool) → same_question q (question_of b n) ≡ t → t || is_among q (node_questions b ns) ≡ true →
        (is_among q (node_questions b ns) ≡ true → (k : Node) × (j : ℕ) × (j < length ns) × (get_or ns j k ≡ k) × (q ≡ question_of b k)) →
        (k : Node) × (j : ℕ) × (j < length (n ∷ ns)) × (get_or (n ∷ ns) j k ≡ k) × (q ≡ question_of b k)
    go true s e ih = (n, 0, omega arith, refl, same_eq q (question_of b n) s)
    go false s e ih = let r : (k : Node) × (j : ℕ) × (j < length ns) × (get_or ns j k ≡ k) × (q ≡ question_of b k) = ih e in (r.0, suc r.1, omega (arith, r.2), r.3, r.4)

among_take : (n : ℕ) (l : List Question) (q : Question) → is_among q (take n l) ≡ true → is_among q l ≡ true
unfolding is_among
among_take zero l q e = absurd (false≢true e)
among_take (suc n) [] q e = e
among_take (suc n) (p ∷ l) q e = go (same_question q p) e (among_take n l q)
  where
    go : (t : Bool) → t || is_among q (take n l) ≡ true → (is_among q (take n l) ≡ true → is_among q l ≡ true) → t || is_among q l ≡ true
    go true e ih = refl
    go false e ih = ih e

-- a kept question was asked
pub first_among : (C : ℕ) (qs : List Question) (q : Question) → is_among q (first_different C qs) ≡ true → is_among q qs ≡ true
unfolding first_different
first_among C qs q e = sym (members q qs) ∙ among_take C (different qs) q e

-- the first C different questions of some nodes, in their slots: each asks a node's question, with its right answer
pub slot_right : (b : Meaning) → length b.states ≤ most_states → (ns : List Node) (C : ℕ) (rest : List ℕ) (i : ℕ) → i < length (first_different C (node_questions b ns)) →
    HeldRight b ns (slots_written b.states (first_different C (node_questions b ns)) ++ rest) i
slot_right b few ns C rest i h =
    let ks : List Question = first_different C (node_questions b ns) in
    let d : Question = record { states = []; label = 0 } in
    let e : Eight ks = eight_first C (node_questions b ns) (nodes_eight b ns) in
    let r : (n : Node) × (j : ℕ) × (j < length ns) × (get_or ns j n ≡ n) × (get_or ks i d ≡ question_of b n)
    = asked_by b ns (get_or ks i d) (first_among C (node_questions b ns) (get_or ks i d) (among_at ks i d h)) in
    record {
      node = r.0;
      place = r.1;
      closed = r.2;
      is_node = r.3;
      asks = written_question b.states ks rest i d e h ∙ ap key_of r.4;
      answers = written_answer b.states ks rest i d e h ∙ ap (work_out b.states) r.4 ∙ work_is_right b few r.0;
    }

pub day_nodes_lem : (book day : List ℕ) → day_questions book day ≡ node_questions (meaning_of book) (day_nodes (meaning_of book) day)
unfolding day_questions
day_nodes_lem book day = questions_nodes (meaning_of book) day (message_count day)
