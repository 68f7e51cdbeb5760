-- The order of children, at any depth, has no part in what matches. Demand 2, second sentence.
use Rattle.std.specs.Prelude.{◌≡◌, refl, Bool, true, false, ◌||◌, ◌&&◌, List, ℕ}
use Rattle.std.proofs.Common.{◌∙◌, ap, ap₂}
use Rattle.std.proofs.Math.Path.{fun_ext}
use Rattle.std.proofs.Math.Option.{Option}
use Rattle.rules.specs.Book.{Meaning}
use Rattle.rules.specs.State.{fits}
use Rattle.rules.specs.Value.{value_of}
use Rattle.rules.specs.Tree.{Forest}
use Rattle.rules.specs.Match.{says, settle, some_child, matches, filters_where, accepted_filters}
use Rattle.rules.specs.Order.{Reordered, nothing, keep, swap, then}

or_swap : (a b c : Bool) → a || b || c ≡ a || c || b
or_swap true b c = refl
or_swap false true true = refl
or_swap false true false = refl
or_swap false false true = refl
or_swap false false false = refl

pub child_reordered : (b : Meaning) {f g : Forest} → Reordered f g → some_child b f ≡ some_child b g
unfolding some_child
child_reordered b nothing = refl
child_reordered b (keep {x} {t} p q) =
    fun_ext λ l. fun_ext λ s. ap₂ (λ kid rest. rest l s || (fits l x && settle (λ a k here. says a (value_of b.reads t) kid here) b.states 0 s)) (child_reordered b p) (child_reordered b q)
child_reordered b (swap {x} {y} {t} {u} {k} {m} {f}) =
    fun_ext λ l. fun_ext λ s.
    or_swap (some_child b f l s) (fits l y && settle (λ a n here. says a (value_of b.reads u) (some_child b m) here) b.states 0 s)
    (fits l x && settle (λ a n here. says a (value_of b.reads t) (some_child b k) here) b.states 0 s)
child_reordered b (then p q) = child_reordered b p ∙ child_reordered b q

pub matches_reordered : (b : Meaning) (t : Option (List ℕ)) {f g : Forest} → Reordered f g →
    matches b (record { text = t; children = f }) ≡ matches b (record { text = t; children = g })
unfolding matches
matches_reordered b t p = fun_ext λ j. ap (λ kid. settle (λ a k here. says a (value_of b.reads t) kid here) b.states 0 j) (child_reordered b p)

-- so the accepted filters are the same
pub filters_reordered : (book : List ℕ) (t : Option (List ℕ)) {f g : Forest} → Reordered f g →
    accepted_filters book (record { text = t; children = f }) ≡ accepted_filters book (record { text = t; children = g })
unfolding accepted_filters
filters_reordered book t p = ap (filters_where book) (matches_reordered _ t p)
