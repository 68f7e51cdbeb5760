-- The pass from any filled slots: it asks some questions, one for each node that closes, and what it carries on is what the inner call leaves, asked them in turn.
-- Section "Questions and the memory".
use Rattle.std.specs.Prelude.{◌≡◌, refl}
use Rattle.std.proofs.Common.{sym, ◌∙◌, arith, add-zero}
use Rattle.std.proofs.Math.Path.{ap}
use mathlib.Core.List.{List, [], ◌∷◌, ◌++◌}
use Prim.Native.Nat.{ℕ, zero, suc, ◌+◌}
use Rattle.std.proofs.Math.ListN.{length, length-append}
use Rattle.rules.specs.Book.{states_of, Meaning, meaning_of, out_of_range}
use Rattle.rules.specs.DayFile.{message_body}
use Rattle.rules.specs.Message.{Keeper, message}
use Rattle.rules.proofs.Message.Simulate.{map_outcome, Alike, message_map}
use Rattle.rules.specs.Sets.{either, Question}
use Rattle.rules.specs.Memory.{Kept, ask, ask_all}
use Rattle.rules.proofs.Memory.FirstC.{ask_all_append, ask_all_snoc}
use Rattle.rules.specs.Pass.{Carried, asking, pass_message, pass_to, in_turn, pass_questions, pass_questions_to, after_asking}
use Rattle.rules.specs.Asked.{growing, read_tree, nodes_to}

-- ── one message ──
module _ (b : Meaning) (c : Carried) where
  alike : Alike (λ set. set) (after_asking b.states c) (in_turn b c.kept) (asking b) (λ p. Unit {0})
  alike = record {
    fresh_is = refl;
    fresh_bare = tt;
    bars_is = λ s. refl;
    said_is = λ s p e. refl;
    shut_is = λ x set up qs. λ i. (either up (ask b.states (record { states = set; label = x }) (ask_all b.states qs c.kept)).answer, (count qs x set) i);
    shut_bare = λ x set up qs e. tt;
  }
    where
      count : (qs : List Question) (x : ℕ) (set : List ℕ) →
          record { asked = c.asked + length qs + 1; kept = (ask b.states (record { states = set; label = x }) (ask_all b.states qs c.kept)).kept }
          ≡ after_asking b.states c (qs ++ record { states = set; label = x } ∷ [])
      count qs x set =
          let q : Question = record { states = set; label = x } in
          let n : c.asked + length qs + 1 ≡ c.asked + length (qs ++ q ∷ []) = rw length-append (omega arith) in
          λ i. record { asked = n i; kept = (sym (ask_all_snoc b.states qs q c.kept)) i }

  -- what it carries on is its questions put to the inner call in turn, each once
  pub message_asks : (body : List ℕ) → (pass_message b body c).state ≡ after_asking b.states c (pass_questions b c.kept body)
  unfolding pass_message ask_all pass_questions
  message_asks body =
      let none : c ≡ after_asking b.states c [] = λ i. record { asked = (sym (add-zero c.asked)) i; kept = c.kept } in
      ap (λ o. o.state) (ap (message (asking b) body) none ∙ message_map (λ set. set) (after_asking b.states c) (in_turn b c.kept) (asking b) (λ p. Unit {0}) alike body [])

-- a pass that only counts the ends
abbrev counting : Meaning → Keeper (Unit {0}) ℕ
counting b = record { fresh = tt; bars = out_of_range b; said = λ s p. tt; shut = λ x c p n. (tt, n + 1) }

turn_count : (b : Meaning) (k : Kept) (body : List ℕ) → message (counting b) body 0 ≡ map_outcome (λ p. tt) length (message (in_turn b k) body [])
turn_count b k body = message_map (λ p. tt) length (in_turn b k) (counting b) (λ p. Unit {0}) (record {
  fresh_is = refl;
  fresh_bare = tt;
  bars_is = λ s. refl;
  said_is = λ s p e. refl;
  shut_is = λ x set up qs. λ i. (tt, (sym (length-append qs (record { states = set; label = x } ∷ []))) i);
  shut_bare = λ x set up qs e. tt;
}) body []

tree_count : (b : Meaning) (body : List ℕ) → message (counting b) body 0 ≡ map_outcome (λ p. tt) length (read_tree b body)
unfolding read_tree
tree_count b body = message_map (λ p. tt) length (growing b) (counting b) (λ p. Unit {0}) (record {
  fresh_is = refl;
  fresh_bare = tt;
  bars_is = λ s. refl;
  said_is = λ s p e. refl;
  shut_is = λ x c p ns. λ i. (tt, (sym (length-append ns (record { label = x; content = c } ∷ []))) i);
  shut_bare = λ x c p ns e. tt;
}) body []

-- one question for each node that closes, whatever the slots hold
pub message_count_lem : (b : Meaning) (k : Kept) (body : List ℕ) → length (pass_questions b k body) ≡ length (read_tree b body).state
unfolding pass_questions
message_count_lem b k body = ap (λ o. o.state) (sym (turn_count b k body) ∙ tree_count b body)

-- ── the messages before message n ──
module _ (book day : List ℕ) (c : Carried) where
  pub pass_asks : (n : ℕ) → (pass_to book day c n).carried ≡ after_asking (states_of book) c (pass_questions_to (meaning_of book) day c.kept n)
  unfolding pass_to pass_questions_to ask_all
  pass_asks zero = λ i. record { asked = (sym (add-zero c.asked)) i; kept = c.kept }
  pass_asks (suc n) =
      let b : Meaning = meaning_of book in
      let qs : List Question = pass_questions_to b day c.kept n in
      let rs : List Question = pass_questions b (ask_all b.states qs c.kept) (message_body day n) in
      let joined : c.asked + length qs + length rs ≡ c.asked + length (qs ++ rs) = rw length-append (omega arith) in
      ap (λ d. (pass_message b (message_body day n) d).state) (pass_asks n)
      ∙ message_asks b (after_asking b.states c qs) (message_body day n)
      ∙ λ i. record { asked = joined i; kept = (sym (ask_all_append b.states qs rs c.kept)) i }

pub pass_count : (b : Meaning) (day : List ℕ) (k : Kept) (n : ℕ) → length (pass_questions_to b day k n) ≡ length (nodes_to b day n)
unfolding pass_questions_to nodes_to
pass_count b day k zero = refl
pass_count b day k (suc n) =
    length-append (pass_questions_to b day k n) _
    ∙ rw (pass_count b day k n, message_count_lem b (ask_all b.states (pass_questions_to b day k n) k) (message_body day n)) (sym (length-append (nodes_to b day n) _))
