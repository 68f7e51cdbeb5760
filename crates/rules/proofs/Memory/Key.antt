-- Laws of a question and its numbers: the one file that knows what stands where in them. Section "Questions and the memory".
use Rattle.std.specs.Prelude.{◌≡◌, refl, List, [], ℕ, length, get_or, take}
use Rattle.std.proofs.Common.{sym, ◌∙◌, ap, arith, length-append, take_at, take-suc, take_all}
use Rattle.std.proofs.lemmas.List.{get_or_at}
use Rattle.rules.specs.Sets.{set_width, Question}
use Rattle.rules.specs.Memory.{question_width, key_of, question_in}

pub key_long : (q : Question) → length q.states ≡ set_width → length (key_of q) ≡ question_width
key_long q e = rw (length-append, e)

-- the numbers say which question it is
pub key_eq : (p q : Question) → key_of p ≡ key_of q → p ≡ q
key_eq p q e = go (omega (arith, simp length-append at (ap length e)))
  where
    go : length q.states ≡ length p.states → p ≡ q
    go l =
        let s : p.states ≡ q.states = sym (take_at p.states _ _ refl) ∙ ap (take (length p.states)) e ∙ take_at q.states _ _ l in
        let x : p.label ≡ q.label = sym (get_or_at p.states _ [] 0 _ refl) ∙ ap (λ w. get_or w (length p.states) 0) e ∙ get_or_at q.states _ [] 0 _ l in
        λ i. record { states = s i; label = x i }

-- numbers are those of the question that they ask
pub key_of_lem : (w : List ℕ) → length w ≡ question_width → key_of (question_in w) ≡ w
key_of_lem w h = sym (take-suc w set_width 0 (omega arith)) ∙ take_all question_width w (omega arith)

-- and a question is the one that its numbers ask
pub key_asks : (q : Question) → length q.states ≡ set_width → question_in (key_of q) ≡ q
key_asks q e =
    let l : length (key_of q) ≡ question_width = key_long q e in
    key_eq (question_in (key_of q)) q (key_of_lem (key_of q) l)
