-- Laws of a part of a list, and of a part put in its place.
use Prim.Native.Nat.{ℕ, ◌+◌, ◌-◌, ◌≤◌, ◌<◌}
use Rattle.std.specs.Prelude.{◌≡◌, List, ◌++◌, take}
use Rattle.std.proofs.Math.Path.{refl, ap}
use Rattle.std.proofs.Common.{sym, ◌∙◌, append_assoc, length-append, length-drop, drop_at, ext_get_or, length-take-le, get_or-take, get_or-drop}
use native.Mathlib.Omega.{arith}
use Rattle.std.proofs.Math.Nat.{add-sub_cancel_left}
use Rattle.std.proofs.Math.ListN.{length, drop, length-take}
use Rattle.std.proofs.Math.Seq.{take_at, take-append-le, drop-append-add, drop-drop}
use Rattle.std.proofs.lemmas.List.{drop-append-le}
use Rattle.lists.specs.Parts.{part, patch}

-- `&s[a..a + n]`, as it is part_lent
pub part_lent : (s : List ℕ) (a n : ℕ) → take (a + n - a) (drop a s) ≡ part s a n
unfolding part
part_lent s a n = rw (add-sub_cancel_left a n)

-- `&mut s[a..a + n]`, as it is part_back
pub part_back : (s l l' : List ℕ) (a n : ℕ) → l ≡ l' → length l' ≡ n → take a s ++ (l ++ drop (a + n - a) (drop a s)) ≡ patch s a l'
unfolding patch
part_back s l l' a n e h = rw (add-sub_cancel_left a n, e, h)

pub part_long : (s : List ℕ) (a n : ℕ) → a + n ≤ length s → length (part s a n) ≡ n
unfolding part
part_long s a n h = simp (length-take, length-drop) (omega arith)

pub part_front : (k a n : ℕ) (l : List ℕ) → a + k ≤ n → n ≤ length l → take k (drop a (take n l)) ≡ take k (drop a l)
part_front k a n l h g =
    ext_get_or 0 (take k (drop a (take n l))) (take k (drop a l))
    (simp (length-take, length-drop) (omega arith))
    (λ i p. let q : i < k = omega (arith, simp (length-take, length-drop) at p) in
    get_or-take k (drop a (take n l)) i 0 q ∙ get_or-drop a (take n l) i 0 ∙ get_or-take n l (a + i) 0 (omega arith) ∙ sym (get_or-drop a l i 0) ∙ sym (get_or-take k (drop a l) i 0 q))

module _ (s : List ℕ) (a : ℕ) (l : List ℕ) (fits : a + length l ≤ length s) where
  front : length (take a s) ≡ a
  front = length-take-le a s (omega arith)

  pub patch_long : length (patch s a l) ≡ length s
  unfolding patch
  patch_long = simp (length-append, length-take, length-drop) (omega arith)

  pub patch_same : part (patch s a l) a (length l) ≡ l
  unfolding part patch
  patch_same = ap (take (length l)) (drop_at (take a s) _ a front) ∙ take_at l _ (length l) refl

  pub patch_below : (b n : ℕ) → b + n ≤ a → part (patch s a l) b n ≡ part s b n
  unfolding part patch
  patch_below b n h =
      ap (take n) (drop-append-le b (take a s) _ (omega (arith, front)))
      ∙ take-append-le n (drop b (take a s)) _ (simp (length-drop, front) (omega arith))
      ∙ part_front n b a s h (omega arith)

  pub patch_past : (b : ℕ) → a + length l ≤ b → drop b (patch s a l) ≡ drop b s
  unfolding patch
  patch_past b h =
      let n : ℕ = b - (a + length l) in
      let whole : length (take a s ++ l) + n ≡ b = simp (length-append, front) (omega arith) in
      let p : drop (length (take a s ++ l) + n) ((take a s ++ l) ++ drop (length l) (drop a s)) ≡ drop n (drop (length l) (drop a s))
      = drop-append-add (take a s ++ l) (drop (length l) (drop a s)) n in
      let q : a + (length l + n) ≡ b = omega arith in
      simp (append_assoc, whole) at p ∙ drop-drop n (length l) (drop a s) ∙ drop-drop (length l + n) a s ∙ ap (λ (k : ℕ). drop k s) q

  pub patch_above : (b n : ℕ) → a + length l ≤ b → part (patch s a l) b n ≡ part s b n
  unfolding part
  patch_above b n h = ap (take n) (patch_past b h)

pub patch_front : (s l : List ℕ) (a : ℕ) → a ≤ length s → take a (patch s a l) ≡ take a s
unfolding patch
patch_front s l a h = take_at (take a s) _ a (length-take-le a s h)
