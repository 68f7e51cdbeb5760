-- Laws by which a reader can check the words of demand 3: the same question, the different ones, the first C of them.
use Rattle.std.specs.Prelude.{◌≡◌, refl, Bool, true, false, ◌||◌, List, [], ◌∷◌, ◌++◌, ℕ, zero, suc, ◌≤◌, ◌<◌, eqb, ltb, length, get_or, take}
use Rattle.std.proofs.Common.{sym, ◌∙◌, ap, ap₂, true≢false, append-nil, not-suc-le-zero, arith, length-append, length-take, take_all, eqb-true, eq-eqb, ltb-true, ltb-false, le-ltb}
use Rattle.std.proofs.Math.Bool.{and-eq-true_iff, or-true}
use Rattle.std.proofs.lemmas.Bool.{false≢true}
use Rattle.std.proofs.Math.Seq.{take-nil}
use Rattle.std.proofs.lemmas.List.{take-append-le}
use Rattle.lists.specs.Choice.{pick}
use Rattle.lists.specs.Same.{same_list}
use Rattle.rules.specs.Sets.{Question}
use Rattle.rules.specs.Memory.{key_of}
use Rattle.rules.proofs.Memory.Key.{key_eq}
use Rattle.rules.specs.Asked.{same_question, is_among, without, different, first_different}

-- ── the same question ──
pub same_list_eq : (xs ys : List ℕ) → same_list xs ys ≡ true → xs ≡ ys
unfolding same_list
same_list_eq [] [] e = refl
same_list_eq [] (y ∷ ys) e = absurd (false≢true e)
same_list_eq (x ∷ xs) [] e = absurd (false≢true e)
same_list_eq (x ∷ xs) (y ∷ ys) e =
    let h : (eqb x y ≡ true) × (same_list xs ys ≡ true) = (and-eq-true_iff (eqb x y) (same_list xs ys)).0 e in
    ap₂ ◌∷◌ (eqb-true x y h.0) (same_list_eq xs ys h.1)

pub same_list_self : (xs : List ℕ) → same_list xs xs ≡ true
unfolding same_list
same_list_self [] = refl
same_list_self (x ∷ xs) = rw (eq-eqb x x refl) (same_list_self xs)

pub same_eq : (p q : Question) → same_question p q ≡ true → p ≡ q
same_eq p q e = key_eq p q (same_list_eq (key_of p) (key_of q) e)

pub same_self : (q : Question) → same_question q q ≡ true
same_self q = same_list_self (key_of q)

pub same_sym : (p q : Question) → same_question p q ≡ same_question q p
same_sym p q = go (same_question p q) (same_question q p) (λ e. turned p q e) (λ e. turned q p e)
  where
    turned : (p q : Question) → same_question p q ≡ true → same_question q p ≡ true
    turned p q e = ap (same_question q) (same_eq p q e) ∙ same_self q

    go : (t u : Bool) → (t ≡ true → u ≡ true) → (u ≡ true → t ≡ true) → t ≡ u
    go true u f g = sym (f refl)
    go false true f g = g refl
    go false false f g = refl

-- ── among a list ──
pub among_at : (ks : List Question) (i : ℕ) (d : Question) → i < length ks → is_among (get_or ks i d) ks ≡ true
unfolding is_among
among_at [] i d h = absurd (not-suc-le-zero h)
among_at (k ∷ ks) zero d h = ap (λ t. t || is_among k ks) (same_self k)
among_at (k ∷ ks) (suc i) d h = ap (λ t. same_question (get_or ks i d) k || t) (among_at ks i d (omega arith)) ∙ or-true (same_question (get_or ks i d) k)

pub among_none : (ks : List Question) (q d : Question) → ((i : ℕ) → i < length ks → same_question (get_or ks i d) q ≡ false) → is_among q ks ≡ false
unfolding is_among
among_none [] q d f = refl
among_none (k ∷ ks) q d f = ap₂ ◌||◌ (same_sym q k ∙ f 0 (omega arith)) (among_none ks q d (λ i h. f (suc i) (omega arith)))

-- ── the different ones: the same members, none twice, each at its first place ──
pub without_other : (x q : Question) (l : List Question) → same_question x q ≡ false → is_among x (without q l) ≡ is_among x l
unfolding is_among without
without_other x q [] h = refl
without_other x q (p ∷ l) h = go (same_question p q) refl (same_question x p) refl (without_other x q l h)
  where
    go : (t : Bool) → same_question p q ≡ t → (u : Bool) → same_question x p ≡ u → is_among x (without q l) ≡ is_among x l →
        is_among x (elim t [ true ↦ without q l | false ↦ p ∷ without q l ]) ≡ u || is_among x l
    go true e true d ih = absurd (true≢false (sym d ∙ ap (same_question x) (same_eq p q e) ∙ h))
    go true e false d ih = ih
    go false e u d ih = ap₂ ◌||◌ d ih

pub members : (x : Question) (qs : List Question) → is_among x (different qs) ≡ is_among x qs
unfolding is_among different
members x [] = refl
members x (q ∷ qs) = go (same_question x q) refl (members x qs)
  where
    go : (t : Bool) → same_question x q ≡ t → is_among x (different qs) ≡ is_among x qs → t || is_among x (without q (different qs)) ≡ t || is_among x qs
    go true e ih = refl
    go false e ih = without_other x q (different qs) e ∙ ih

-- no question stands twice
abbrev pub NoneTwice : List Question → Type 0
NoneTwice [] = Unit
NoneTwice (q ∷ qs) = (is_among q qs ≡ false) × NoneTwice qs

without_self : (q : Question) (l : List Question) → is_among q (without q l) ≡ false
unfolding is_among without
without_self q [] = refl
without_self q (p ∷ l) = go (same_question p q) refl (without_self q l)
  where
    go : (t : Bool) → same_question p q ≡ t → is_among q (without q l) ≡ false → is_among q (elim t [ true ↦ without q l | false ↦ p ∷ without q l ]) ≡ false
    go true e ih = ih
    go false e ih = ap₂ ◌||◌ (same_sym q p ∙ e) ih

or_none : (a b : Bool) → a || b ≡ false → (a ≡ false) × (b ≡ false)
or_none true b e = absurd (true≢false e)
or_none false b e = (refl, e)

-- what is not among a list is not among what is left of it
without_none : (x q : Question) (l : List Question) → is_among x l ≡ false → is_among x (without q l) ≡ false
unfolding is_among without
without_none x q [] h = refl
without_none x q (p ∷ l) h = go (same_question p q) (or_none (same_question x p) (is_among x l) h) (λ e. without_none x q l e)
  where
    go : (t : Bool) → (same_question x p ≡ false) × (is_among x l ≡ false) → (is_among x l ≡ false → is_among x (without q l) ≡ false) →
        is_among x (elim t [ true ↦ without q l | false ↦ p ∷ without q l ]) ≡ false
    go true e ih = ih e.1
    go false e ih = ap₂ ◌||◌ e.0 (ih e.1)

without_twice : (q : Question) (l : List Question) → NoneTwice l → NoneTwice (without q l)
unfolding without
without_twice q [] h = tt
without_twice q (p ∷ l) h = go (same_question p q) (without_twice q l h.1)
  where
    go : (t : Bool) → NoneTwice (without q l) → NoneTwice (elim t [ true ↦ without q l | false ↦ p ∷ without q l ])
    go true ih = ih
    go false ih = (without_none p q l h.0, ih)

pub once : (qs : List Question) → NoneTwice (different qs)
unfolding different
once [] = tt
once (q ∷ qs) = (without_self q (different qs), without_twice q (different qs) (once qs))

take_none : (x : Question) (n : ℕ) (l : List Question) → is_among x l ≡ false → is_among x (take n l) ≡ false
unfolding is_among
take_none x zero l h = refl
take_none x (suc n) [] h = refl
take_none x (suc n) (p ∷ l) h = let e : (same_question x p ≡ false) × (is_among x l ≡ false) = or_none _ _ h in ap₂ ◌||◌ e.0 (take_none x n l e.1)

take_twice : (n : ℕ) (l : List Question) → NoneTwice l → NoneTwice (take n l)
take_twice zero l h = tt
take_twice (suc n) [] h = tt
take_twice (suc n) (p ∷ l) h = (take_none p n l h.0, take_twice n l h.1)

pub first_once : (C : ℕ) (qs : List Question) → NoneTwice (first_different C qs)
unfolding first_different
first_once C qs = take_twice C (different qs) (once qs)

without_append : (q : Question) (l r : List Question) → without q (l ++ r) ≡ without q l ++ without q r
unfolding without
without_append q [] r = refl
without_append q (p ∷ l) r = go (same_question p q) (without_append q l r)
  where
    go : (t : Bool) → without q (l ++ r) ≡ without q l ++ without q r →
        elim t [ true ↦ without q (l ++ r) | false ↦ p ∷ without q (l ++ r) ] ≡ (elim t [ true ↦ without q l | false ↦ p ∷ without q l ]) ++ without q r
    go true ih = ih
    go false ih = ap (λ k. p ∷ k) ih

-- first places: a question asked last stands last if it is not among the earlier ones, and else changes nothing
pub different_snoc : (qs : List Question) (q : Question) → different (qs ++ q ∷ []) ≡ pick (is_among q qs) (different qs) (different qs ++ q ∷ [])
unfolding different is_among without pick
different_snoc [] q = refl
different_snoc (p ∷ qs) q = ap (λ l. p ∷ without p l) (different_snoc qs q) ∙ go (same_question q p) refl (is_among q qs)
  where
    go : (t : Bool) → same_question q p ≡ t → (u : Bool) →
        p ∷ without p (pick u (different qs) (different qs ++ q ∷ []))
        ≡ pick (t || u) (p ∷ without p (different qs)) (p ∷ without p (different qs) ++ q ∷ [])
    go true e true = refl
    go true e false = ap (λ l. p ∷ l) (without_append p (different qs) (q ∷ []) ∙ rw (e, without) (append-nil (without p (different qs))))
    go false e true = refl
    go false e false = ap (λ l. p ∷ l) (without_append p (different qs) (q ∷ []) ∙ rw (e, without))

-- ── the first C different ones ──
-- the questions kept and one more asked: kept at the end if it is not among them and they are fewer than C
abbrev pub kept_with : ℕ → List Question → Question → List Question
kept_with C ks q = pick (is_among q ks) ks (pick (ltb (length ks) C) (ks ++ q ∷ []) ks)

pub first_none : (C : ℕ) → first_different C [] ≡ []
unfolding first_different different
first_none C = take-nil C

pub first_few : (C : ℕ) (qs : List Question) → length (first_different C qs) ≤ C
unfolding first_different
first_few C qs = rw length-take (omega arith)

pub first_snoc : (C : ℕ) (qs : List Question) (q : Question) → first_different C (qs ++ q ∷ []) ≡ kept_with C (first_different C qs) q
unfolding first_different pick
first_snoc C qs q = ap (take C) (different_snoc qs q) ∙ go (ltb (length (different qs)) C) refl
  where
    D : List Question
    D = different qs

    roomy : (t : Bool) → length D < C → take C (pick t D (D ++ q ∷ [])) ≡ pick t D (D ++ q ∷ [])
    roomy true h = take_all C D (omega arith)
    roomy false h = take_all C (D ++ q ∷ []) (rw length-append (omega arith))

    tight : (t u : Bool) → C ≤ length D → take C (pick t D (D ++ q ∷ [])) ≡ pick u (take C D) (take C D)
    tight true true h = refl
    tight true false h = refl
    tight false true h = take-append-le C D (q ∷ []) h
    tight false false h = take-append-le C D (q ∷ []) h

    go : (t : Bool) → ltb (length D) C ≡ t → take C (pick (is_among q qs) D (D ++ q ∷ [])) ≡ kept_with C (take C D) q
    go true e =
        let h : length D < C = ltb-true _ _ e in
        rw (take_all C D (omega arith), e, members q qs) (roomy (is_among q qs) h)
    go false e =
        let h : C ≤ length D = ltb-false _ _ e in
        let l : length (take C D) ≡ C = rw length-take (omega arith) in
        rw (l, le-ltb C C (omega arith)) (tight (is_among q qs) (is_among q (take C D)) h)
