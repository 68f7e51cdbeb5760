-- The six relations and the labels, proved by computation. Sections "Filter book" and "Match rule".
use Rattle.std.specs.Prelude.{◌≡◌, refl, Bool, true, false, List, [], ◌∷◌, map, ℕ, ℤ, pos, negsuc}
use Rattle.lists.specs.Choice.{pick}
use Rattle.rules.specs.State.{
  Relation,
  equal,
  differs,
  below,
  at_most,
  above,
  at_least,
  related,
  element,
  attribute,
  fits,
}

-- =, ≠, <, ≤, > and ≥
abbrev pub signs : List Relation
signs = equal ∷ differs ∷ below ∷ at_most ∷ above ∷ at_least ∷ []

-- each of them of z to c
abbrev pub six : ℤ → ℤ → List Bool
six z c = map (λ (r : Relation). related r z c) signs

abbrev pub Pair : Type 0
Pair = ℤ × ℤ

abbrev pub less : List Bool
less = false ∷ true ∷ true ∷ true ∷ false ∷ false ∷ []

abbrev pub same : List Bool
same = true ∷ false ∷ false ∷ true ∷ false ∷ true ∷ []

abbrev pub more : List Bool
more = false ∷ true ∷ false ∷ false ∷ true ∷ true ∷ []

-- "1 =, 2 ≠, 3 <, 4 ≤, 5 >, 6 ≥": just below, at and just above a constant, on both sides of 0 and at the range ends
pub relations : map (λ (p : Pair). six p.0 p.1) (
    (pos 4, pos 5) ∷ (pos 5, pos 5) ∷ (pos 6, pos 5) ∷
    (negsuc 0, pos 0) ∷ (pos 0, pos 0) ∷ (pos 1, pos 0) ∷
    (negsuc 5, negsuc 4) ∷ (negsuc 4, negsuc 4) ∷ (negsuc 3, negsuc 4) ∷
    (negsuc 4, pos 5) ∷ (negsuc 6, pos 5) ∷ (pos 5, negsuc 4) ∷ (pos 3, negsuc 4) ∷
    (negsuc 2147483647, negsuc 2147483646) ∷ (negsuc 2147483647, negsuc 2147483647) ∷
    (negsuc 2147483646, negsuc 2147483647) ∷
    (pos 2147483646, pos 2147483647) ∷ (pos 2147483647, pos 2147483647) ∷ (pos 2147483647, pos 2147483646) ∷
    (negsuc 2147483647, pos 2147483647) ∷ (pos 2147483647, negsuc 2147483647) ∷ [])
    ≡ less ∷ same ∷ more ∷
    less ∷ same ∷ more ∷
    less ∷ same ∷ more ∷
    less ∷ less ∷ more ∷ more ∷
    less ∷ same ∷ more ∷
    less ∷ same ∷ more ∷
    less ∷ more ∷ []
relations = refl

abbrev pub labels : List ℕ
labels = 0 ∷ 1 ∷ 2 ∷ 32767 ∷ 32768 ∷ 32769 ∷ 65535 ∷ 65536 ∷ []

-- "1 to 32,767 are element names, 32,769 to 65,535 attribute names"; a label of two bytes goes to 65,535, so 65,536
-- is asked of no `attribute`
pub elements : map element labels ≡ false ∷ true ∷ true ∷ true ∷ false ∷ false ∷ false ∷ false ∷ []
elements = refl

pub attributes : map attribute (0 ∷ 1 ∷ 2 ∷ 32767 ∷ 32768 ∷ 32769 ∷ 65535 ∷ [])
    ≡ false ∷ false ∷ false ∷ false ∷ false ∷ true ∷ true ∷ []
attributes = refl

-- "label 0 fits every element, 32,768 every attribute, any other its equal"
pub fitting : map (λ (l : ℕ). map (fits l) labels) (0 ∷ 32768 ∷ 2 ∷ 32769 ∷ [])
    ≡ (false ∷ true ∷ true ∷ true ∷ false ∷ false ∷ false ∷ false ∷ []) ∷
    (false ∷ false ∷ false ∷ false ∷ false ∷ true ∷ true ∷ false ∷ []) ∷
    (false ∷ false ∷ true ∷ false ∷ false ∷ false ∷ false ∷ false ∷ []) ∷
    (false ∷ false ∷ false ∷ false ∷ false ∷ true ∷ false ∷ false ∷ []) ∷ []
unfolding pick fits
fitting = refl
