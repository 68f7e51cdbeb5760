-- The numbers of entry k, read at its place p.
use Rattle.std.specs.Prelude.{◌≡◌, List, ℕ, ◌+◌}
use Rattle.std.proofs.Common.{◌∙◌}
use Rattle.std.proofs.Math.Path.{ap}
use Rattle.rules.specs.Bytes.{le2, le4, entry_at}
use Rattle.rules.specs.Book.{id_of, body_start, body_size}

module _ (b : List ℕ) (k p r : ℕ) (place : p ≡ entry_at k) where
  pub id_is : r ≡ le4 b p → r ≡ id_of b k
  unfolding id_of
  id_is e = e ∙ ap (le4 b) place

  pub start_is : r ≡ le2 b (p + 4) → r ≡ body_start b k
  unfolding body_start
  start_is e = e ∙ ap (λ (q : ℕ). le2 b (q + 4)) place

  pub size_is : r ≡ le2 b (p + 6) → r ≡ body_size b k
  unfolding body_size
  size_is e = e ∙ ap (λ (q : ℕ). le2 b (q + 6)) place
