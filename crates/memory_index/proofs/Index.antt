-- Which slots are entered, by computation.
use Rattle.std.specs.Prelude.{◌≡◌, refl, true, false, [], ◌∷◌, map}
use Rattle.lists.specs.Choice.{pick}
use Rattle.lists.specs.Parts.{part}
use Rattle.lists.specs.Same.{same_list}
use Rattle.rules.specs.Memory.{slot_question, first_slot}
use Rattle.rules.proofs.Memory.Examples.{held}
use Rattle.memory_index.specs.Index.{is_first}

-- of four slots the last two ask one question: the third is its first
pub first_alone : map (is_first held) (0 ∷ 1 ∷ 2 ∷ 3 ∷ []) ≡ true ∷ true ∷ true ∷ false ∷ []
unfolding is_first first_slot slot_question part same_list pick
first_alone = refl
