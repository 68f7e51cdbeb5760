-- Where one filter's body is in the book: the search for it, and the bytes that stand there.
use Rattle.std.specs.Prelude.{◌≡◌, refl, Bool, true, false, eqb, take, drop}
use Rattle.std.proofs.Math.Path.{sym, ap}
use Rattle.std.proofs.Common.{subst, ◌∙◌, eq-eqb, ne_eqb, eqb-true}
use mathlib.Core.List.{List, []}
use Prim.Native.Nat.{ℕ, zero, suc, ◌+◌, ◌-◌, ◌*◌, ◌<◌, ◌≤◌}
use native.Mathlib.Omega.{arith}
use Rattle.std.proofs.Math.ListN.{length}
use Rattle.lists.specs.Choice.{pick}
use Rattle.lists.specs.Parts.{part}
use Rattle.lists.specs.Choice.Laws.{pick_true, pick_false, pick_cases}
use Rattle.lists.specs.Parts.Laws.{part_lent}
use Rattle.rules.specs.Book.{state_width, filter_count, id_of, body_start, body_size, book_refusal, body_among, body_of, nowhere, part_among, part_of}
use Rattle.rules.specs.Book as rules
use Rattle.book_contents.specs.BookAccepted.{BookAccepted, accepted, body_inside}
use Rattle.book_filter_body.specs.declared.Part.{Part}

-- what a call gives, as the definition has it
abbrev pub part_in : Part → rules.Part
part_in p = record { start = p.start; length = p.length }

-- ── the search, with k entries left ──
pub record Looking (b : List ℕ) (id k : ℕ) : Type 0 where
  pub within : k ≤ filter_count b
  pub same : part_among b id k ≡ part_among b id (filter_count b)

module _ (b : List ℕ) (id : ℕ) where
  pub looking_none : {f : ℕ} → f ≡ filter_count b → Looking b id f
  looking_none e = record { within = omega arith; same = ap (part_among b id) e }

  module _ {k : ℕ} (g : Looking b id k) where
    here : 0 < k → part_among b id (filter_count b) ≡ pick (eqb (id_of b (k - 1)) id) (record { start = body_start b (k - 1); length = state_width * body_size b (k - 1) }) (part_among b id (k - 1))
    unfolding part_among
    here h = let e : k ≡ suc (k - 1) = omega arith in sym g.same ∙ ap (part_among b id) e

    pub looking_next : {i : ℕ} → 0 < k → i ≡ id_of b (k - 1) → (i ≡ id → ⊥) → Looking b id (k - 1)
    looking_next h e d = record {
      within = omega arith;
      same = sym (here h ∙ pick_false _ _ _ (ne_eqb _ _ (λ q. d (e ∙ q))));
    }

    pub looking_hit : {i s n : ℕ} → 0 < k → i ≡ id_of b (k - 1) → i ≡ id → s ≡ body_start b (k - 1) → n ≡ state_width * body_size b (k - 1)
        → ◌≡◌ {A = rules.Part} (record { start = s; length = n }) (part_among b id (filter_count b))
    looking_hit h e d p q = rw (p, q) (sym (here h ∙ pick_true _ _ _ (eq-eqb _ _ (sym e ∙ d))))

    pub looking_all : k ≤ 0 → nowhere ≡ part_among b id (filter_count b)
    unfolding part_among
    looking_all h = let e : k ≡ 0 = omega arith in rw e at g.same

  -- ── the call's two ways out ──
  pub part_refused : {r : ℕ} → r ≡ book_refusal b → (r ≡ 0 → ⊥) → nowhere ≡ part_of b id
  unfolding part_of
  part_refused e d = sym (pick_false _ _ _ (ne_eqb _ _ (λ q. d (e ∙ q))))

  pub part_found : {r : ℕ} {p : rules.Part} → r ≡ book_refusal b → r ≡ 0 → p ≡ part_among b id (filter_count b) → p ≡ part_of b id
  unfolding part_of
  part_found e d f = f ∙ sym (pick_true _ _ _ (eq-eqb _ _ (sym e ∙ d)))

pub ruleset looking_laws = (looking_none, looking_next, looking_all)

pub ruleset part_laws = (part_refused, part_found)

-- ── the part of the book that the numbers name ──
unfoldable pub bytes_at : List ℕ → rules.Part → List ℕ
bytes_at b p = part b p.start p.length

among_inside : (b : List ℕ) (id k : ℕ) → BookAccepted b → k ≤ filter_count b → (part_among b id k).start + (part_among b id k).length ≤ length b
unfolding part_among
among_inside b id zero a h = omega arith
among_inside b id (suc k) a h =
    pick_cases (λ (p : rules.Part). p.start + p.length ≤ length b) (eqb (id_of b k) id) (λ e. body_inside b a k (omega arith)) (λ e. among_inside b id k a (omega arith))

-- what is done to a choice is done to both sides
through : {A B : Type 0} (f : A → B) (t : Bool) (x y : A) → f (pick t x y) ≡ pick t (f x) (f y)
unfolding pick
through f true x y = refl
through f false x y = refl

among_bytes : (b : List ℕ) (id k : ℕ) → bytes_at b (part_among b id k) ≡ body_among b id k
unfolding part_among body_among bytes_at part
among_bytes b id zero = refl
among_bytes b id (suc k) =
    through (bytes_at b) (eqb (id_of b k) id) _ (part_among b id k) ∙ ap (pick (eqb (id_of b k) id) (part b (body_start b k) (state_width * body_size b k))) (among_bytes b id k)

module _ (b : List ℕ) (id : ℕ) where
  -- "the very bytes of that body inside the book"
  pub part_bytes : bytes_at b (part_of b id) ≡ body_of b id
  unfolding part_of body_of bytes_at part
  part_bytes =
      through (bytes_at b) (eqb (book_refusal b) 0) (part_among b id (filter_count b)) nowhere
      ∙ ap (λ (l : List ℕ). pick (eqb (book_refusal b) 0) l []) (among_bytes b id (filter_count b))

  part_within : (part_of b id).start + (part_of b id).length ≤ length b
  unfolding part_of
  part_within =
      pick_cases (λ (p : rules.Part). p.start + p.length ≤ length b) (eqb (book_refusal b) 0)
      (λ e. among_inside b id (filter_count b) (accepted b (eqb-true _ _ e)) (omega arith)) (λ e. omega arith)

  module _ {p : Part} (e : part_in p ≡ part_of b id) where
    pub part_inside : p.start + p.length ≤ length b
    part_inside = subst (λ (q : rules.Part). q.start + q.length ≤ length b) (sym e) part_within

    -- as the part is lent
    pub body_is : take (p.start + p.length - p.start) (drop p.start b) ≡ body_of b id
    unfolding bytes_at
    body_is = part_lent b p.start p.length ∙ ap (bytes_at b) e ∙ part_bytes

    -- where it lies: k is the block, x where the book starts in it
    pub body_handed : (k x : ℕ) →
        ◌≡◌ {A = ℕ × ℕ × List ℕ} (k, p.start + x, take (p.start + p.length - p.start) (drop p.start b)) (k, x + (part_of b id).start, body_of b id)
    body_handed k x =
        let start_is : p.start + x ≡ x + (part_of b id).start = omega (arith, ap (λ (q : rules.Part). q.start) e) in
        λ i. (k, start_is i, body_is i)
