-- The three demands hold of every outcome which the run's promise allows: a theorem each. specs/Demands.antt states them.
use mathlib.Core.{Path.refl, Path.sym, Path.◌∙◌, Path.ap, Path.ap₂}
use Rattle.std.specs.Prelude.{ℕ}
use Rattle.rules.specs.{Book.meaning_of, DayFile.message_body}
use Rattle.rules.specs.{Sets.bit_at}
use Rattle.rules.specs.{Run.Lent, Run.Returned, Run.run, Promise.RunPromise, Promise.one_run}
use Rattle.rules.specs.{Asked.message_row}
use Rattle.rules.proofs.Pass.AnySlots.{pass_asks, pass_count}
use Rattle.rules.specs.ASmallDay as Small
use Rattle.demands.specs.Words.{MessageAnswered, meaning, root_of, Permuted, small_one, small_two, small_renamed}
use Rattle.demands.specs.Demands.{Demand1, Demand2, Demand3}
pub mod Proofs
pub mod Pair

pub demand_1 : {l : Lent} {g : Returned} → RunPromise l g → Demand1 l g
demand_1 {l} {g} p = record {
  some_answer = (run l, refl);
  one_answer = λ h q. one_run l q p;
  refused_exactly = Proofs.refused_by l g p;
  refused_keeps = Proofs.refused_keeps l g p;
  past_kept = λ e. (Proofs.answers_past l g p e, Proofs.workspace_is l g p e);
  refused_row = λ k one. Proofs.given_row_number l g one.promised one.accepted k one.within;
  refused_there = λ k one. Proofs.given_there l g one.promised one.accepted k one.within;
  refused_where = λ k one. Proofs.given_where l g one.promised one.accepted k one.within;
  read_place = λ k one. Proofs.given_read_place l g one.promised one.accepted k one.within;
  refused_message = λ k one. Proofs.given_refused l g one.promised one.accepted k one.within;
  row_alone = λ k one. Proofs.given_row l g one.promised one.accepted k one.within;
  same_bytes = λ k one {m} {h} {j} other b e.
      Proofs.given_row l g one.promised one.accepted k one.within ∙ ap₂ message_row b e
      ∙ sym (Proofs.given_row m h other.promised other.accepted j other.within);
}

pub demand_2 : {l : Lent} {g : Returned} {k : ℕ} → MessageAnswered l g k → Demand2 l g k
demand_2 {l} {g} {k} one = record {
  read_exactly = Proofs.given_tree l g one.promised one.accepted k one.within;
  filters_exactly = Proofs.given_read l g one.promised one.accepted k one.within;
  filter_exactly = λ e i u.
      ap (λ n. bit_at n i) (Proofs.given_read l g one.promised one.accepted k one.within e)
      ∙ Proofs.accepted_bit l.book (root_of (meaning l) (message_body l.day k)) i u;
  one_reading = Proofs.given_reading l g one.promised one.accepted;
  any_order = λ {m} {h} {j} other b e d p.
      Proofs.given_read l g one.promised one.accepted k one.within e ∙ Proofs.accepted_permuted b p.0 p.1
      ∙ sym (Proofs.given_read m h other.promised other.accepted j other.within d);
}

-- Messages 1 and 2 of the small day are such a pair. Message 1 with one label changed, read too (Pair.pair_read), is
-- none (Proofs.one_label says it of any tree).
pub small_pair : Permuted (root_of (meaning_of Small.book) small_one) (root_of (meaning_of Small.book) small_two) × (Permuted (root_of (meaning_of Small.book) small_one) (root_of (meaning_of Small.book) small_renamed) → ⊥)
small_pair = (Pair.pair_reordered, λ p. Pair.renamed_apart p.1)

pub demand_3 : {l : Lent} {g : Returned} → RunPromise l g → Demand3 l g
demand_3 {l} {g} p = record {
  kept_answer = Proofs.first_held;
  answer_joined = λ b x set up c. refl;
  asked_in_turn = λ book day c n. (pass_asks book day c n, pass_count (meaning_of book) day c.kept n);
  asked_is = Proofs.asked_is l g p;
  anew_is = Proofs.anew_is l g p;
  memory_is = λ e. (Proofs.filled_is l g p e, Proofs.memory_is l g p e);
  answers_right = Proofs.slots_right l g p;
  any_memory = λ m h q. Proofs.any_memory l m g h p q;
}
