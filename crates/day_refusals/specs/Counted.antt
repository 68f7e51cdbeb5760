-- The counts that a pass starts from, as the definition has them.
use Rattle.rules.specs.Calls as rules
use Rattle.memory_ask.specs.declared.Counts.{Counts}

abbrev pub counts_of : Counts → rules.Counts
counts_of c = record { asked = c.asked; anew = c.anew; filled = c.filled }
