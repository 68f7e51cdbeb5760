-- The numbers of the six kinds, as the table of kinds has them.
use Rattle.std.specs.Prelude.{◌≡◌, ℕ, ◌<◌, Result}
use Rattle.std.specs.Result.{MatchResult}
use Rattle.book_contents.specs.declared.Kind.{Kind}
use Rattle.book_contents.specs.declared.Kind.TheVariants.{True, Leaf, And, Or, Not, Step}
use Rattle.book_contents.specs.declared.NoKind.{NoKind}

abbrev pub kind_number : Kind → ℕ
kind_number True = 0
kind_number Leaf = 1
kind_number And = 2
kind_number Or = 3
kind_number Not = 4
kind_number Step = 5

-- r is the kind with the number n, and an error where there is none
abbrev pub Numbered : ℕ → Result Kind NoKind → Type 0
Numbered n r = MatchResult r (λ kind. n ≡ kind_number kind) (λ e. 5 < n)
