-- Laws of demand 3's counts: how many are different, and how many are not kept.
use Rattle.std.specs.Prelude.{◌≡◌, refl, Bool, true, false, ◌||◌, List, [], ◌∷◌, ◌++◌, ℕ, suc, ◌+◌, ◌≤◌, ◌<◌, length, take}
use Rattle.std.proofs.Common.{sym, ◌∙◌, ap, true≢false, append_assoc, append-nil, add-zero, zero-add, arith, length-append, take_all}
use Rattle.std.proofs.Math.Bool.{or-true}
use Rattle.lists.specs.Choice.{pick}
use Rattle.rules.specs.Sets.{Question}
use Rattle.rules.specs.Asked.{same_question, is_among, without, different, first_different, not_kept}
use Rattle.rules.proofs.Asked.Different.{same_eq, same_self, same_sym, NoneTwice, without_other, members, once, different_snoc}

-- ── the count not kept ──
pub not_kept_few : (C : ℕ) (earlier qs : List Question) → not_kept C earlier qs ≤ length qs
unfolding not_kept
not_kept_few C earlier [] = omega arith
not_kept_few C earlier (q ∷ qs) = go (is_among q (first_different C earlier)) (not_kept_few C (earlier ++ q ∷ []) qs)
  where
    rest : ℕ
    rest = not_kept C (earlier ++ q ∷ []) qs

    go : (t : Bool) → rest ≤ length qs → elim t [ true ↦ rest | false ↦ suc rest ] ≤ suc (length qs)
    go true h = omega arith
    go false h = omega arith

-- with no slot every question counts
pub not_kept_none : (earlier qs : List Question) → not_kept 0 earlier qs ≡ length qs
unfolding not_kept first_different is_among
not_kept_none earlier [] = refl
not_kept_none earlier (q ∷ qs) = ap suc (not_kept_none (earlier ++ q ∷ []) qs)

-- with a slot for each different question, each counts once
count_from : (C : ℕ) (earlier qs : List Question) → length (different (earlier ++ qs)) ≤ C →
    length (different earlier) + not_kept C earlier qs ≡ length (different (earlier ++ qs))
unfolding not_kept first_different pick
count_from C earlier [] h = rw (add-zero, append-nil)
count_from C earlier (q ∷ qs) h =
    let d : total ((earlier ++ q ∷ []) ++ qs) ≡ total (earlier ++ q ∷ qs) = ap total (append_assoc earlier (q ∷ []) qs) in
    let ih : total (earlier ++ q ∷ []) + rest ≡ total ((earlier ++ q ∷ []) ++ qs) = count_from C (earlier ++ q ∷ []) qs (omega arith) in
    let s : total (earlier ++ q ∷ []) ≡ length (more (is_among q earlier)) = ap length (different_snoc earlier q) in
    let n : length D ≤ length (more (is_among q earlier)) = grown (is_among q earlier) in
    let t : is_among q (take C D) ≡ is_among q earlier = ap (is_among q) (take_all C D (omega arith)) ∙ members q earlier in
    rw (not_kept, t) (count (is_among q earlier) (omega arith))
  where
    total : List Question → ℕ
    total l = length (different l)

    D : List Question
    D = different earlier

    more : Bool → List Question
    more t = pick t D (D ++ q ∷ [])

    rest : ℕ
    rest = not_kept C (earlier ++ q ∷ []) qs

    grown : (t : Bool) → length D ≤ length (more t)
    grown true = omega arith
    grown false = rw length-append (omega arith)

    count : (t : Bool) → length (more t) + rest ≡ total (earlier ++ q ∷ qs) → length D + (elim t [ true ↦ rest | false ↦ suc rest ]) ≡ total (earlier ++ q ∷ qs)
    count true e = e
    count false e = omega (arith, rw length-append at e)

pub not_kept_all : (C : ℕ) (qs : List Question) → length (different qs) ≤ C → not_kept C [] qs ≡ length (different qs)
unfolding different
not_kept_all C qs h = rw zero-add at (count_from C [] qs h)

-- ── how many are different ──
without_few : (q : Question) (l : List Question) → length (without q l) ≤ length l
unfolding without
without_few q [] = omega arith
without_few q (p ∷ l) = go (same_question p q) (without_few q l)
  where
    go : (t : Bool) → length (without q l) ≤ length l → length {A = Question} (elim t [ true ↦ without q l | false ↦ p ∷ without q l ]) ≤ suc (length l)
    go true h = omega arith
    go false h = omega arith

without_fewer : (q : Question) (l : List Question) → is_among q l ≡ true → length (without q l) < length l
unfolding without is_among
without_fewer q [] e = absurd (true≢false (sym e))
without_fewer q (p ∷ l) e = go (same_question p q) refl (λ h. without_fewer q l h)
  where
    go : (t : Bool) → same_question p q ≡ t → (is_among q l ≡ true → length (without q l) < length l) →
        length {A = Question} (elim t [ true ↦ without q l | false ↦ p ∷ without q l ]) < suc (length l)
    go true d ih = omega (arith, without_few q l)
    go false d ih = omega (arith, ih (ap (λ t. t || is_among q l) (sym (same_sym q p ∙ d)) ∙ e))

-- none twice, and all among another list: no more than that list has
pub no_more : (l r : List Question) → NoneTwice l → ((x : Question) → is_among x l ≡ true → is_among x r ≡ true) → length l ≤ length r
unfolding is_among
no_more [] r h f = omega arith
no_more (q ∷ l) r h f =
    omega (arith, without_fewer q r (f q (ap (λ t. t || is_among q l) (same_self q))), no_more l (without q r) h.1 (λ x e. rest x e (same_question x q) refl))
  where
    rest : (x : Question) → is_among x l ≡ true → (t : Bool) → same_question x q ≡ t → is_among x (without q r) ≡ true
    rest x e true d = absurd (true≢false (sym e ∙ ap (λ y. is_among y l) (same_eq x q d) ∙ h.0))
    rest x e false d = without_other x q r d ∙ f x (ap (λ t. same_question x q || t) e ∙ or-true (same_question x q))

-- lists with the same members, in whatever order and however often, have as many different ones
pub same_count : (qs rs : List Question) → ((x : Question) → is_among x qs ≡ is_among x rs) → length (different qs) ≡ length (different rs)
same_count qs rs f = omega (arith, half qs rs f, half rs qs (λ x. sym (f x)))
  where
    half : (qs rs : List Question) → ((x : Question) → is_among x qs ≡ is_among x rs) → length (different qs) ≤ length (different rs)
    half qs rs f = no_more (different qs) (different rs) (once qs) (λ x e. members x rs ∙ sym (f x) ∙ sym (members x qs) ∙ e)
