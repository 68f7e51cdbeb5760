-- What refusals 6 and 7 ask of a test: what it answers of one state, whether it passes somewhere in the book, and that
-- the numbers of a state are read where they stand.
use Rattle.std.specs.Prelude.{◌≡◌, Bool, false, not, List, ℕ, ◌+◌, ◌*◌, ◌<◌, ◌≤◌, length, get_or}
use Rattle.std.proofs.Common.{arith}
use Rattle.lists.specs.Below.{AnyBelow, some_below}
use Rattle.lists.proofs.Below.Any.{some_below_is}
use Rattle.rules.specs.Bytes.{le2}
use Rattle.rules.specs.Book.{state_width, filter_count, body_start, body_size, bodies_astray, is_row, leads_well, row_at, leads_at}
use Rattle.book_contents.specs.BookAccepted.{places, states_rise}

-- what a test answers of state i of the body of n states at start: it is given the state's place, its number and the body's size
pub record Answers (test : ℕ → ℕ → ℕ → Bool → Type 0) (start n i : ℕ) (t : Bool) : Type 0 where
  pub given : test (start + state_width * i) i n t

-- r says whether some state of some body passes the test
abbrev pub SomeState : (ℕ → ℕ → ℕ → Bool → Type 0) → List ℕ → Bool → Type 0
SomeState test b r = AnyBelow (λ k. AnyBelow (Answers test (body_start b k) (body_size b k)) (body_size b k)) (filter_count b) r

pub some_states : {test : ℕ → ℕ → ℕ → Bool → Type 0} (b : List ℕ) (p : ℕ → ℕ → ℕ → Bool) (r : Bool) → SomeState test b r
    → ((at i n : ℕ) (t : Bool) → test at i n t → t ≡ p at i n)
    → r ≡ some_below (λ k. some_below (λ i. p (body_start b k + state_width * i) i (body_size b k)) (body_size b k)) (filter_count b)
some_states {test} b p r a e =
    some_below_is _ {answers = λ k. AnyBelow (Answers test (body_start b k) (body_size b k)) (body_size b k)} (filter_count b) r a
    (λ k t h d. some_below_is _ {answers = Answers test (body_start b k) (body_size b k)} (body_size b k) t d (λ i u l f. e _ i _ u f.given))

-- a state from the numbers that were read
pub no_row_is : (b : List ℕ) (at kind one x y z : ℕ) (r : Bool) → kind ≡ get_or b at 0 → one ≡ get_or b (at + 1) 0 → x ≡ le2 b (at + 2) → y ≡ le2 b (at + 4) → z ≡ le2 b (at + 6)
    → r ≡ is_row kind one x y z → not r ≡ not (row_at b at)
no_row_is b at kind one x y z r ek eo ex ey ez e = rw (e, ek, eo, ex, ey, ez)

pub astray_is : (b : List ℕ) (at i n kind x y : ℕ) (r : Bool) → kind ≡ get_or b at 0 → x ≡ le2 b (at + 2) → y ≡ le2 b (at + 4)
    → r ≡ leads_well kind x y i n → not r ≡ not (leads_at b at i n)
astray_is b at i n kind x y r ek ex ey e = rw (e, ek, ex, ey)

-- a body where it must be lies inside the book
pub inside : (b : List ℕ) (k : ℕ) {s n f : ℕ} → s ≡ body_start b k → n ≡ body_size b k → f ≡ filter_count b → k < f → bodies_astray b ≡ false → s + state_width * n ≤ length b
inside b k start size e h g =
    let l : k < filter_count b = omega arith in let d = places b g in omega (arith, d.0 k l, d.1, states_rise b k (filter_count b) l)
