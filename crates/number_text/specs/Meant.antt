-- The paper's value for each case of the answer, and the paper's relation for each of the code's. That a node has no
-- text at all is not for a text's value to say.
use Rattle.rules.specs.Value as rules
use Rattle.rules.specs.State as state
use Rattle.number_text.specs.declared.Value.{Value}
use Rattle.number_text.specs.declared.Value.TheVariants.{Number, NoNumber, OutOfRange}
use Rattle.number_text.specs.declared.Relation.{Relation}
use Rattle.number_text.specs.declared.Relation.TheVariants.{Equal, Differs, Below, AtMost, Above, AtLeast}

abbrev pub meant : Value → rules.Value
meant (Number z) = rules.number z
meant NoNumber = rules.no_number
meant OutOfRange = rules.out_of_range

abbrev pub meant_relation : Relation → state.Relation
meant_relation Equal = state.equal
meant_relation Differs = state.differs
meant_relation Below = state.below
meant_relation AtMost = state.at_most
meant_relation Above = state.above
meant_relation AtLeast = state.at_least
