-- The numbers of entry k, read at its place p.
use Rattle.std.specs.Prelude.{◌≡◌, List, ℕ, ◌+◌}
use Rattle.std.proofs.Common.{◌∙◌}
use Rattle.std.proofs.Math.Path.{ap}
use Rattle.rules.specs.Bytes.{le4, entry_at}
use Rattle.rules.specs.DayFile.{message_start, message_length}

module _ (d : List ℕ) (k p r : ℕ) (place : p ≡ entry_at k) where
  pub start_is : r ≡ le4 d p → r ≡ message_start d k
  unfolding message_start
  start_is e = e ∙ ap (le4 d) place

  pub length_is : r ≡ le4 d (p + 4) → r ≡ message_length d k
  unfolding message_length
  length_is e = e ∙ ap (λ (q : ℕ). le4 d (q + 4)) place
