-- The seven refusals in their order: a law for each way out of `check_book`.
-- The tests are the answers that the code had, each with its equation.
use Rattle.std.specs.Prelude.{◌≡◌, Bool, true, false, List, [], ◌∷◌, ℕ, ◌<◌, ◌≤◌, ltb, length}
use Rattle.std.proofs.Math.Path.{sym}
use Rattle.std.proofs.Common.{◌∙◌, arith, lt-ltb, le-ltb}
use Rattle.lists.specs.Checks.{Check, first_of}
use Rattle.lists.specs.Checks.Laws.{first_fails, first_passes, first_end}
use Rattle.book_contents.specs.BookAccepted.{room}
use Rattle.rules.specs.Bytes.{entry_at}
use Rattle.rules.specs.Book.{most_filters, filter_count, book_short, ids_fall, bad_sizes, bodies_astray, bad_rows, bad_successors, book_refusal}

-- the checks from number k on
abbrev from7 : List ℕ → List Check
from7 b = record { number = 7; fails = bad_successors b } ∷ []

abbrev from6 : List ℕ → List Check
from6 b = record { number = 6; fails = bad_rows b } ∷ from7 b

abbrev from5 : List ℕ → List Check
from5 b = record { number = 5; fails = bodies_astray b } ∷ from6 b

abbrev from4 : List ℕ → List Check
from4 b = record { number = 4; fails = bad_sizes b } ∷ from5 b

abbrev from3 : List ℕ → List Check
from3 b = record { number = 3; fails = ids_fall b } ∷ from4 b

abbrev from2 : List ℕ → List Check
from2 b = record { number = 2; fails = ltb most_filters (filter_count b) } ∷ from3 b

module _ (b : List ℕ) where
  pub refused_1 : {t : Bool} → t ≡ book_short b → t ≡ true → 1 ≡ book_refusal b
  unfolding book_refusal
  refused_1 e h = sym (first_fails 1 _ (from2 b) (sym e ∙ h))

  module _ {short : Bool} (short_is : short ≡ book_short b) (short_not : short ≡ false) where
    rest1 : book_refusal b ≡ first_of (from2 b)
    unfolding book_refusal
    rest1 = first_passes 1 _ (from2 b) (sym short_is ∙ short_not)

    pub refused_2 : {f : ℕ} → f ≡ filter_count b → most_filters < f → 2 ≡ book_refusal b
    refused_2 {f} e h = sym (rest1 ∙ first_fails 2 _ (from3 b) (lt-ltb most_filters (filter_count b) (omega arith)))

    module _ {f : ℕ} (count : f ≡ filter_count b) (few : f ≤ most_filters) where
      rest2 : book_refusal b ≡ first_of (from3 b)
      rest2 = rest1 ∙ first_passes 2 _ (from3 b) (le-ltb most_filters (filter_count b) (omega arith))

      pub refused_3 : {t : Bool} → t ≡ ids_fall b → t ≡ true → 3 ≡ book_refusal b
      refused_3 e h = sym (rest2 ∙ first_fails 3 _ (from4 b) (sym e ∙ h))

      module _ {ids : Bool} (ids_is : ids ≡ ids_fall b) (ids_not : ids ≡ false) where
        rest3 : book_refusal b ≡ first_of (from4 b)
        rest3 = rest2 ∙ first_passes 3 _ (from4 b) (sym ids_is ∙ ids_not)

        pub refused_4 : {t : Bool} → t ≡ bad_sizes b → t ≡ true → 4 ≡ book_refusal b
        refused_4 e h = sym (rest3 ∙ first_fails 4 _ (from5 b) (sym e ∙ h))

        module _ {sizes : Bool} (sizes_is : sizes ≡ bad_sizes b) (sizes_not : sizes ≡ false) where
          rest4 : book_refusal b ≡ first_of (from5 b)
          rest4 = rest3 ∙ first_passes 4 _ (from5 b) (sym sizes_is ∙ sizes_not)

          pub refused_5 : {t : Bool} → t ≡ bodies_astray b → t ≡ true → 5 ≡ book_refusal b
          refused_5 e h = sym (rest4 ∙ first_fails 5 _ (from6 b) (sym e ∙ h))

          module _ {places : Bool} (places_is : places ≡ bodies_astray b) (places_not : places ≡ false) where
            rest5 : book_refusal b ≡ first_of (from6 b)
            rest5 = rest4 ∙ first_passes 5 _ (from6 b) (sym places_is ∙ places_not)

            pub refused_6 : {t : Bool} → t ≡ bad_rows b → t ≡ true → 6 ≡ book_refusal b
            refused_6 e h = sym (rest5 ∙ first_fails 6 _ (from7 b) (sym e ∙ h))

            module _ {rows : Bool} (rows_is : rows ≡ bad_rows b) (rows_not : rows ≡ false) where
              rest6 : book_refusal b ≡ first_of (from7 b)
              rest6 = rest5 ∙ first_passes 6 _ (from7 b) (sym rows_is ∙ rows_not)

              pub refused_7 : {t : Bool} → t ≡ bad_successors b → t ≡ true → 7 ≡ book_refusal b
              refused_7 e h = sym (rest6 ∙ first_fails 7 _ [] (sym e ∙ h))

              module _ {leads : Bool} (leads_is : leads ≡ bad_successors b) (leads_not : leads ≡ false) where
                pub accepts : 0 ≡ book_refusal b
                accepts = sym (rest6 ∙ first_passes 7 _ [] (sym leads_is ∙ leads_not) ∙ first_end)

-- ── what a check that passed gives the next ──
pub roomy : (b : List ℕ) {t : Bool} → t ≡ book_short b → t ≡ false → entry_at (filter_count b) ≤ length b
roomy b e h = (room b (sym e ∙ h)).1

pub bare : (b : List ℕ) {t : Bool} → t ≡ book_short b → t ≡ false → 2 ≤ length b
bare b e h = (room b (sym e ∙ h)).0

pub ruleset book_laws = (bare, roomy, refused_1, refused_2, refused_3, refused_4, refused_5, refused_6, refused_7, accepts)
