-- "an empty part exactly when the book is refused or has no such id"; and which filter's body it is otherwise.
use Rattle.std.specs.Prelude.{◌≡◌, refl, Bool, true, false, ◌||◌, not, List, [], ◌∷◌, ℕ, zero, suc, ◌*◌, ◌<◌, ◌≤◌, eqb, length}
use Rattle.std.proofs.Common.{sym, ◌∙◌, arith, not-suc-le-zero, add-one, eq-eqb, ne_eqb, eqb-true}
use Rattle.std.proofs.Math.Bool.{or-true, or-false}
use Rattle.std.proofs.Math.Decide.{dec_lt}
use Rattle.lists.specs.Choice.{pick}
use Rattle.lists.specs.Parts.{part}
use Rattle.lists.specs.Below.{some_below}
use Rattle.lists.specs.Choice.Laws.{pick_true, pick_false}
use Rattle.lists.specs.Parts.Laws.{part_long}
use Rattle.rules.specs.Book.{state_width, filter_count, id_of, body_start, body_size, book_refusal, body_among, body_of}
use Rattle.book_contents.specs.BookAccepted.{BookAccepted, accepted, body_inside}

abbrev pub has_id : List ℕ → ℕ → ℕ → Bool
has_id b id k = eqb (id_of b k) id

-- the book is refused, or none of its filters has the id
abbrev pub absent : List ℕ → ℕ → Bool
absent b id = not (eqb (book_refusal b) 0) || not (some_below (has_id b id) (filter_count b))

abbrev bare : List ℕ → Bool
bare l = eqb (length l) 0

-- one entry more, whose id is the one that is looked for (t) or not
among_more : (b l : List ℕ) (k : ℕ) (s t : Bool) → BookAccepted b → k < filter_count b → bare l ≡ not s → bare (pick t (part b (body_start b k) (state_width * body_size b k)) l) ≡ not (s || t)
unfolding pick
among_more b l k s true a h e =
    let n : state_width * body_size b k ≡ 0 → ⊥ = omega (arith, a.some k h) in
    rw (part_long b (body_start b k) (state_width * body_size b k) (body_inside b a k h), ne_eqb _ _ n, or-true s)
among_more b l k s false a h e = rw (or-false s) e

among_bare : (b : List ℕ) (id k : ℕ) → BookAccepted b → k ≤ filter_count b → bare (body_among b id k) ≡ not (some_below (has_id b id) k)
unfolding body_among some_below
among_bare b id zero a h = refl
among_bare b id (suc k) a h = among_more b (body_among b id k) k (some_below (has_id b id) k) (has_id b id k) a (omega arith) (among_bare b id k a (omega arith))

body_bare : (b : List ℕ) (id : ℕ) (t : Bool) → eqb (book_refusal b) 0 ≡ t → bare (pick t (body_among b id (filter_count b)) []) ≡ not t || not (some_below (has_id b id) (filter_count b))
unfolding pick
body_bare b id true e = among_bare b id (filter_count b) (accepted b (eqb-true _ _ e)) (omega arith)
body_bare b id false e = refl

empty_exactly : (b : List ℕ) (id : ℕ) → bare (body_of b id) ≡ absent b id
unfolding body_of
empty_exactly b id = body_bare b id (eqb (book_refusal b) 0) refl

nothing : (l : List ℕ) → length l ≡ 0 → l ≡ []
nothing [] e = refl
nothing (x ∷ l) e = absurd (omega arith)

pub empty_where : (b : List ℕ) (id : ℕ) → absent b id ≡ true → body_of b id ≡ []
empty_where b id e = nothing (body_of b id) (eqb-true _ _ (empty_exactly b id ∙ e))

pub empty_only_where : (b : List ℕ) (id : ℕ) → body_of b id ≡ [] → absent b id ≡ true
empty_only_where b id e = sym (empty_exactly b id) ∙ rw e refl

-- ── ids rise, so an id names one filter ──
rising : (b : List ℕ) (j k : ℕ) → BookAccepted b → j < k → k < filter_count b → id_of b j < id_of b k
rising b j zero a h l = absurd (not-suc-le-zero h)
rising b j (suc k) a h l =
    let step : id_of b k < id_of b (suc k) = rw (← add-one k) (a.rise k (omega arith)) in
    elim (dec_lt j k) [
      | yes u ↦ omega (arith, rising b j k a u (omega arith))
      | no u ↦ let e : j ≡ k = omega arith in rw e step
    ]

among_at : (b : List ℕ) (k m : ℕ) → BookAccepted b → k < m → m ≤ filter_count b → body_among b (id_of b k) m ≡ part b (body_start b k) (state_width * body_size b k)
unfolding body_among
among_at b k zero a h l = absurd (not-suc-le-zero h)
among_at b k (suc m) a h l = elim (dec_lt k m) [
  | yes u ↦ let n : id_of b m ≡ id_of b k → ⊥ = omega (arith, rising b k m a u (omega arith)) in pick_false _ _ _ (ne_eqb _ _ n) ∙ among_at b k m a u (omega arith)
  | no u ↦ let e : k ≡ m = omega arith in rw e (pick_true _ _ _ (eq-eqb (id_of b m) (id_of b m) refl))
]

pub body_of_filter : (b : List ℕ) (k : ℕ) → book_refusal b ≡ 0 → k < filter_count b → body_of b (id_of b k) ≡ part b (body_start b k) (state_width * body_size b k)
unfolding body_of
body_of_filter b k ok h = pick_true _ _ _ (eq-eqb _ _ ok) ∙ among_at b k (filter_count b) (accepted b ok) h (omega arith)
