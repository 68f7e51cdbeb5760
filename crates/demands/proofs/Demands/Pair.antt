-- Demand 2's second sentence on the small day, by computation: messages 1 and 2 are one message with its calls in another order;
-- message 1 with a label changed is no such message.
use Rattle.std.specs.Prelude.{◌≡◌, refl, List, [], ◌∷◌, ℕ}
use Rattle.std.proofs.Common.{arith}
use Rattle.rules.specs.Book.{meaning_of}
use Rattle.rules.specs.Tree.{Content, Node}
use Rattle.rules.specs.Message.{Outcome}
use Rattle.rules.specs.Asked.{read_tree}
use Rattle.rules.specs.Order.{Reordered, nothing, keep, swap}
use Rattle.rules.specs.ASmallDay as Small
use Rattle.rules.proofs.ASmallDay.Examples.{run_shown}
use Rattle.demands.proofs.Demands.Proofs.{labels_same}
use Rattle.demands.specs.Words.{small_one, small_two, small_renamed}

-- a message read as the small day's book reads it
abbrev read_small : List ℕ → Outcome Content (List Node)
read_small body = read_tree (meaning_of Small.book) body

-- all three are read
pub pair_read : (read_small small_one).refusal ∷ (read_small small_two).refusal ∷ (read_small small_renamed).refusal ∷ [] ≡ 0 ∷ 0 ∷ 0 ∷ []
unfolding run_shown read_tree
pair_read = refl

pub pair_reordered : ((read_small small_one).root.text ≡ (read_small small_two).root.text) × Reordered (read_small small_one).root.children (read_small small_two).root.children
unfolding run_shown read_tree
pair_reordered = (refl, keep swap nothing)

-- the labels of message 1 renamed add up to one more
pub renamed_apart : Reordered (read_small small_one).root.children (read_small small_renamed).root.children → ⊥
unfolding run_shown read_tree
renamed_apart p = let e : ◌≡◌ {A = ℕ} 32783 32784 = labels_same p in omega arith
