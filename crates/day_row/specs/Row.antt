-- A message's row: the filters at its root, and its numbers in their place. Section "Refusal numbers", "Answers hold three 64-bit numbers".
use Rattle.std.specs.Prelude.{◌≡◌, refl, List, [], ◌∷◌, ◌++◌, ℕ, ◌+◌, ◌-◌, take, drop, Result, Ok, Err}
use Rattle.lists.specs.Parts.{patch}
use Rattle.lists.specs.Parts.Laws.{part_back}
use Rattle.rules.specs.Book.{states_of}
use Rattle.rules.specs.Match.{filters_where}
use Rattle.rules.specs.Sets.{completed}
use Rattle.rules.specs.Run.{row_width}
use Rattle.refusals.specs.Numbers.{number_of}
use Rattle.refusals.specs.declared.Refused.{Refused}
use Rattle.message_levels.specs.Level.{set_at}

-- the filters by the root's set in level 0, where the message is read
abbrev pub root_filters : {A : Type 0} → List ℕ → List ℕ → Result A Refused → Result ℕ Refused
root_filters book ws (Ok x) = Ok (filters_where book (completed (states_of book) (set_at ws 0)))
root_filters book ws (Err e) = Err e

-- refusal, place, filters: "a message that is read has refusal 0 and place 0", and a refused message no filters
abbrev pub row_of : Result ℕ Refused → List ℕ
row_of (Ok filters) = 0 ∷ 0 ∷ filters ∷ []
row_of (Err e) = number_of e.refusal ∷ e.place ∷ 0 ∷ []

-- a row lent from the answers' middle, and back
pub row_back : (s l : List ℕ) (a x y z : ℕ) → l ≡ x ∷ y ∷ z ∷ [] → take a s ++ (l ++ drop (a + row_width - a) (drop a s)) ≡ patch s a (x ∷ y ∷ z ∷ [])
row_back s l a x y z e = part_back s l (x ∷ y ∷ z ∷ []) a row_width e refl

pub row_kept : (s l : List ℕ) (a : ℕ) (r : Result ℕ Refused) → l ≡ row_of r → take a s ++ (l ++ drop (a + row_width - a) (drop a s)) ≡ patch s a (row_of r)
row_kept s l a (Ok filters) e = row_back s l a 0 0 filters e
row_kept s l a (Err d) e = row_back s l a (number_of d.refusal) d.place 0 e
