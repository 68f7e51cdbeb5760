-- The pass and the tree agree: begun with no slot filled, the pass over a message is its reading as a tree, each level's set the asked set of its node,
-- and the questions it asks are those of the nodes that close. Section "Questions and the memory".
use Rattle.std.specs.Prelude.{◌≡◌, refl, ℕ, ◌+◌, ◌≤◌, eqb, length}
use Rattle.std.proofs.Math.Path.{sym, ap, fun_ext}
use Rattle.std.proofs.Common.{◌∙◌, length-append}
use mathlib.Core.List.{List, [], ◌∷◌, ◌++◌, map, map-append, append_assoc, append-nil}
use Rattle.std.proofs.Math.Option.{none}
use Rattle.lists.specs.Choice.{pick}
use Rattle.rules.specs.Book.{most_states, states_of, Meaning, meaning_of}
use Rattle.rules.specs.Tree.{Content, Node}
use Rattle.rules.specs.Match.{filters_where, accepted_filters}
use Rattle.rules.specs.Message.{message}
use Rattle.rules.specs.Sets.{set_width, either, leaves_of, completed, Question}
use Rattle.rules.specs.Memory.{ask, ask_all}
use Rattle.rules.specs.Pass.{Carried, ask_and_join, asking, pass_message, answer_row}
use Rattle.rules.specs.Asked.{shut_node, growing, read_tree, question_of, right_answer, message_row}
use Rattle.rules.proofs.Sets.Laws.{set_of_long}
use Rattle.rules.proofs.Match.Laws.{asked_set, completed_node, work_is_right}
use Rattle.rules.proofs.Asked.Laws.{asked_empty, asked_said, asked_shut}
use Rattle.rules.proofs.Message.Simulate.{map_outcome, Alike, message_map}
use Rattle.rules.proofs.Memory.FirstC.{ask_all_snoc, Eight, at_start, reply_is}

-- ── the questions of some nodes ──
abbrev pub node_questions : Meaning → List Node → List Question
node_questions b ns = map (question_of b) ns

pub question_long : (b : Meaning) (n : Node) → length (question_of b n).states ≡ set_width
unfolding question_of
question_long b n = set_of_long b.states _

pub nodes_eight : (b : Meaning) (ns : List Node) → Eight (node_questions b ns)
nodes_eight b [] = tt
nodes_eight b (n ∷ ns) = (question_long b n, nodes_eight b ns)

-- what the pass carries after the questions qs, begun with no slot filled
abbrev pub after_questions : Meaning → List ℕ → List Question → Carried
after_questions b m qs = record { asked = length qs; kept = ask_all b.states qs (at_start m) }

-- after the nodes ns have closed
abbrev pub after : Meaning → List ℕ → List Node → Carried
after b m ns = after_questions b m (node_questions b ns)

module _ (b : Meaning) (few : length b.states ≤ most_states) (m : List ℕ) where
  -- one question more
  carried_snoc : (qs : List Question) (q : Question) →
      record { asked = length qs + 1; kept = (ask b.states q (ask_all b.states qs (at_start m))).kept } ≡ after_questions b m (qs ++ q ∷ [])
  carried_snoc qs q = rw (length-append, ask_all_snoc b.states qs q (at_start m))

  -- the question that the pass asks of a node's asked set is the node's own, by opening asked_set and question_of
  shut_alike : (x : ℕ) (c p : Content) (ns : List Node) →
      ask_and_join b.states x (asked_set b c) (asked_set b p) (after b m ns) ≡ (asked_set b (shut_node x c p ns).0, after b m (shut_node x c p ns).1)
  unfolding asked_set question_of
  shut_alike x c p ns =
      let n : Node = record { label = x; content = c } in
      let qs : List Question = node_questions b ns in
      let right : (ask b.states (question_of b n) (ask_all b.states qs (at_start m))).answer ≡ right_answer b n
      = reply_is b.states m qs (question_of b n) (nodes_eight b ns) (question_long b n) ∙ work_is_right b few n in
      λ i. (
        (ap (either (asked_set b p)) right ∙ sym (asked_shut b few p.text p.children x c)) i,
        (carried_snoc qs (question_of b n) ∙ ap (after_questions b m) (sym (map-append (question_of b) ns (n ∷ [])))) i,
      )

  pub pass_alike : Alike (asked_set b) (after b m) (growing b) (asking b) (λ c. c.text ≡ none)
  pass_alike = record {
    fresh_is = asked_empty b few;
    fresh_bare = refl;
    bars_is = λ s. refl;
    said_is = λ s p e. asked_said b few s p.children ∙ ap (λ t. either (asked_set b (record { text = t; children = p.children })) (leaves_of b.states (b.reads s))) (sym e);
    shut_is = shut_alike;
    shut_bare = λ x c p s e. e;
  }

  -- the pass from what is carried after ns is the reading of the tree, from ns
  pub pass_is : (body : List ℕ) (ns : List Node) → pass_message b body (after b m ns) ≡ map_outcome (asked_set b) (after b m) (message (growing b) body ns)
  unfolding pass_message
  pass_is body ns = message_map (asked_set b) (after b m) (growing b) (asking b) (λ c. c.text ≡ none) pass_alike body ns

-- ── nodes that closed before a message stand before its own ──
-- reading from ns is reading alone, with ns put before the nodes
pub nodes_before : (b : Meaning) (body : List ℕ) (ns : List Node) → message (growing b) body ns ≡ map_outcome (λ c. c) (λ r. ns ++ r) (read_tree b body)
unfolding read_tree
nodes_before b body ns =
    ap (message (growing b) body) (sym (append-nil ns)) ∙ message_map (λ c. c) (λ r. ns ++ r) (growing b) (growing b) (λ c. Unit {0}) alike body []
  where
    alike : Alike (λ c. c) (λ r. ns ++ r) (growing b) (growing b) (λ c. Unit {0})
    alike = record {
      fresh_is = refl;
      fresh_bare = tt;
      bars_is = λ s. refl;
      said_is = λ s p e. refl;
      shut_is = λ x c p r. λ i. ((shut_node x c p r).0, (append_assoc ns r (record { label = x; content = c } ∷ [])) i);
      shut_bare = λ x c p s e. tt;
    }

-- so the pass over a message, from what is carried after ns, is the message's tree, whatever the memory lent
pub pass_tree : (b : Meaning) → length b.states ≤ most_states → (m body : List ℕ) (ns : List Node) →
    pass_message b body (after b m ns) ≡ map_outcome (asked_set b) (λ r. after b m (ns ++ r)) (read_tree b body)
pass_tree b few m body ns = pass_is b few m body ns ∙ ap (map_outcome (asked_set b) (after b m)) (nodes_before b body ns)

module _ (book : List ℕ) (few : length (states_of book) ≤ most_states) where
  pub filters_are : (root : Content) → filters_where book (completed (states_of book) (asked_set (meaning_of book) root)) ≡ accepted_filters book root
  unfolding accepted_filters
  filters_are root = ap (filters_where book) (fun_ext (completed_node (meaning_of book) few root))

  pub row_is : (m body : List ℕ) (ns : List Node) → answer_row book (pass_message (meaning_of book) body (after (meaning_of book) m ns)) ≡ message_row book body
  unfolding answer_row
  row_is m body ns =
      let o = read_tree (meaning_of book) body in
      ap (answer_row book) (pass_tree (meaning_of book) few m body ns)
      ∙ ap (λ n. o.refusal ∷ o.place ∷ pick (eqb o.refusal 0) n 0 ∷ []) (filters_are o.root)
