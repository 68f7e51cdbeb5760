-- The laws that the code of the index is proved by: one for each way through it.
use Rattle.std.specs.Prelude.{◌≡◌, refl, Option as Answer, None, Some, is_some, Bool, true, false, List, ◌++◌, length, get_or, set, replicate}
use Rattle.std.proofs.Math.Path.{sym, ap}
use Rattle.std.proofs.Common.{◌∙◌, arith, add-one, true≢false}
use Rattle.std.proofs.lemmas.Bool.{false≢true}
use Rattle.std.proofs.lemmas.List.{replicate-append-replicate, length-replicate, get_or_append_left, get_or-append-add, set-append_left, set-append_right}
use Rattle.std.proofs.Math.Option.{none, some}
use Prim.Native.Nat.{ℕ, zero, suc, ◌+◌, ◌-◌, ◌≤◌, ◌<◌}
use Rattle.lists.specs.Choice.{pick}
use Rattle.lists.specs.Same.{same_list}
use Rattle.rules.specs.Sets.{set_width}
use Rattle.rules.specs.Memory.{question_width, question_in, slot_question, slots_lent}
use Rattle.rules.proofs.Memory.Laws.{lent_fits, lent_same}
use Rattle.memory_slots.specs.Slots.{with_slot, lent_few, lent_has, first_agree, first_none, kept_long, kept_asks, kept_before}
use Rattle.memory_hash.specs.Hash.{heads, hash_of, hash_small}
use Rattle.memory_index.specs.Index.{index_room, meant, first_by, is_first, entered, index_of, Indexed}
use Rattle.memory_index.proofs.Chains.{enters, last_of, by_other, by_entered, last_first, last_le, last_enters, Chained, chained}

-- ── the predicate ──
pub indexed_chained : (x m : List ℕ) (n : ℕ) → Indexed x m n → Chained x m n
indexed_chained x m n g = rw g.same (chained m n g.few)

-- some index meets it, for every memory and count of filled slots
pub indexed_is : (m : List ℕ) (n : ℕ) → n ≤ slots_lent m → Indexed (index_of m n) m n
indexed_is m n h =
    let few = lent_few m n h in
    record { long = (chained m n few).long; few = few; fits = omega (arith, lent_fits m); same = refl }

index_none : (m : List ℕ) → index_of m 0 ≡ replicate index_room 0
unfolding index_of
index_none m = refl

index_more : (m : List ℕ) (n : ℕ) → index_of m (suc n) ≡ pick (is_first m n) (entered (index_of m n) n (hash_of (slot_question m n))) (index_of m n)
unfolding index_of
index_more m n = refl

pub indexed_none : (x m l : List ℕ) → x ≡ replicate (length l) 0 → length l ≡ index_room → Indexed x m 0
indexed_none x m l e h = rw (e, h, ← index_none m) (indexed_is m 0 (omega arith))

-- its two parts begin empty
begun : (x m : List ℕ) (j k : ℕ) → x ≡ replicate {A = ℕ} j 0 ++ replicate {A = ℕ} k 0 → j + k ≡ index_room → Indexed x m 0
begun x m j k e h =
    let f : x ≡ replicate {A = ℕ} (j + k) 0 = e ∙ replicate-append-replicate {A = ℕ} j k 0 in
    let g : length x ≡ j + k = ap length f ∙ length-replicate {A = ℕ} (j + k) 0 in
    indexed_none x m x (f ∙ ap (λ (n : ℕ). replicate {A = ℕ} n 0) (sym g)) (g ∙ h)

pub indexed_begun : (m a b u v : List ℕ) → a ≡ replicate (length u) 0 → b ≡ replicate (length v) 0 → length u + length v ≡ index_room → Indexed (a ++ b) m 0
indexed_begun m a b u v e f h = begun _ m (length u) (length v) (rw (e, f)) h

module _ (x m : List ℕ) (n : ℕ) (g : Indexed x m n) (free : n < slots_lent m) where
  indexed_next : (x' : List ℕ) → x' ≡ index_of m (suc n) → Indexed x' m (n + 1)
  indexed_next x' e = rw (e, add-one) (indexed_is m (suc n) free)

  pub indexed_enter : (h : ℕ) (x' : List ℕ) → h ≡ hash_of (slot_question m n) → first_by m n (slot_question m n) ≡ none → x' ≡ entered x n h → Indexed x' m (n + 1)
  unfolding is_first pick
  indexed_enter h x' e f t = indexed_next x' (t ∙ rw (g.same, e, index_more, f))

  pub indexed_left : (k : ℕ) → first_by m n (slot_question m n) ≡ some k → Indexed x m (n + 1)
  unfolding is_first pick
  indexed_left k f = indexed_next x (g.same ∙ rw (index_more, f))

-- another memory that asks the same in its first n slots
module _ (m m' : List ℕ) where
  index_agree : (n : ℕ) → ((i : ℕ) → i < n → slot_question m' i ≡ slot_question m i) → index_of m' n ≡ index_of m n
  unfolding is_first
  index_agree zero a = index_none m' ∙ sym (index_none m)
  index_agree (suc n) a =
      index_more m' n
      ∙ rw (index_agree n (λ i h. a i (omega arith)), a n (omega arith), first_agree m m' n (question_in (slot_question m n)) (λ i h. a i (omega arith)))
      (sym (index_more m n))

  pub indexed_agree : (n : ℕ) → ((i : ℕ) → i < n → slot_question m' i ≡ slot_question m i) → length m' ≡ length m
      → (x : List ℕ) → Indexed x m n → Indexed x m' n
  indexed_agree n a e x g = record { long = g.long; few = g.few; fits = omega (arith, g.fits); same = g.same ∙ sym (index_agree n a) }

-- ── `find`: p is a place of the chain of q's hash, counted from 1, and nothing past it asks q first ──
pub record Walking (m q : List ℕ) (n p : ℕ) : Type 0 where
  pub within : p ≤ n
  pub long : length q ≡ question_width
  pub top : ℕ
  pub at : last_of m top (hash_of q) ≡ p
  pub left : first_by m p q ≡ first_by m n q

walking_at : (m q : List ℕ) (n k p : ℕ) → length q ≡ question_width → k ≤ n → first_by m k q ≡ first_by m n q → p ≡ last_of m k (hash_of q) → Walking m q n p
walking_at m q n k p l h f e = record {
  within = omega (arith, last_le m k (hash_of q));
  long = l;
  top = k;
  at = sym e;
  left = ap (λ (x : ℕ). first_by m x q) e ∙ last_first m q l k ∙ f;
}

pub walking_none : (x m q : List ℕ) (n h p : ℕ) → Indexed x m n → length q ≡ question_width → h ≡ hash_of q → p ≡ get_or x h 0 → Walking m q n p
walking_none x m q n h p g l e f =
    walking_at m q n n p l (omega arith) refl (f ∙ rw e ((indexed_chained x m n g).head (hash_of q) (hash_small q)))

module _ (m q : List ℕ) (n p : ℕ) (w : Walking m q n p) (more : 0 < p) where
  whole : p ≡ suc (p - 1)
  whole = omega arith

  is_in : enters m (p - 1) (hash_of q) ≡ true
  is_in = last_enters m w.top (hash_of q) (p - 1) (w.at ∙ whole)

  on : first_by m (suc (p - 1)) q ≡ first_by m n q
  on = ap (λ (x : ℕ). first_by m x q) (sym whole) ∙ w.left

  module _ (l : List ℕ) (lent : l ≡ slot_question m (p - 1)) (b : Bool) (e : b ≡ same_list l q) where
    asks : b ≡ same_list (slot_question m (p - 1)) q
    asks = rw lent at e

    pub walking_here : b ≡ true → meant (Some (p - 1)) ≡ first_by m n q
    unfolding meant
    walking_here f = sym (by_entered m q w.long (p - 1) (hash_of q) is_in (sym asks ∙ f)) ∙ on

    module _ (x : List ℕ) (g : Indexed x m n) (r : ℕ) (t : r ≡ get_or x (heads + (p - 1)) 0) where
      before : r ≡ last_of m (p - 1) (hash_of q)
      before = t ∙ (indexed_chained x m n g).chain (p - 1) (hash_of q) (omega (arith, w.within)) is_in

      pub walking_less : r < p
      walking_less = omega (arith, before, last_le m (p - 1) (hash_of q))

      pub walking_next : b ≡ false → Walking m q n r
      walking_next f =
          walking_at m q n (p - 1) r w.long (omega (arith, w.within)) (sym (by_other m q w.long (p - 1) (sym asks ∙ f)) ∙ on) before

pub walking_all : (m q : List ℕ) (n p : ℕ) → Walking m q n p → p ≤ 0 → meant None ≡ first_by m n q
unfolding meant
walking_all m q n p w h = let e : p ≡ 0 = omega arith in sym (first_none m (question_in q)) ∙ rw e at w.left

-- ── `enter` ──
pub entering : (x : List ℕ) (n h v : ℕ) → v ≡ n + 1 → set (set x (heads + n) (get_or x h 0)) h v ≡ entered x n h
unfolding entered
entering x n h v e = rw e

-- ── the two parts of an index: the heads, and for each slot the one before it ──
module _ (x a b : List ℕ) (whole : a ++ b ≡ x) (long : length a ≡ heads) where
  pub head_of : (h : ℕ) → h < heads → get_or a h 0 ≡ get_or x h 0
  head_of h k = rw (← whole) (sym (get_or_append_left a b 0 h (omega arith)))

  pub before_of : (i : ℕ) → get_or b i 0 ≡ get_or x (heads + i) 0
  before_of i = rw (← whole, ← long) (sym (get_or-append-add a b i 0))

  pub entering_parts : (n h : ℕ) → h < heads → set a h (n + 1) ++ set b n (get_or a h 0) ≡ entered x n h
  entering_parts n h k =
      let e : heads + n - heads ≡ n = omega arith in
      let p : set (a ++ b) (heads + n) (get_or a h 0) ≡ a ++ set b n (get_or a h 0)
      = set-append_right a b heads (heads + n) (get_or a h 0) long (omega arith) ∙ rw e in
      sym (set-append_left a (set b n (get_or a h 0)) h (n + 1) (omega arith)) ∙ rw (← p, whole, head_of h k) (entering x n h (n + 1) refl)

-- ── `add`: one slot more in the index ──
module _ (x m q : List ℕ) (n h : ℕ) (r : Answer ℕ) (g : Indexed x m n) (free : n < slots_lent m)
    (asks : q ≡ slot_question m n) (found : meant r ≡ first_by m n q) where
  pub added_left : (k : ℕ) → r ≡ Some k → Indexed x m (n + 1)
  unfolding meant
  added_left k d = indexed_left x m n g free k (rw asks at (sym found ∙ ap meant d))

  pub added_new : (x' : List ℕ) → r ≡ None → h ≡ hash_of q → x' ≡ entered x n h → Indexed x' m (n + 1)
  unfolding meant
  added_new x' d e t = indexed_enter x m n g free h x' (e ∙ ap hash_of asks) (rw asks at (sym found ∙ ap meant d)) t

  pub added_seen : is_some r ≡ true → Indexed x m (n + 1)
  added_seen = go r refl
    where
      go : (o : Answer ℕ) → r ≡ o → is_some o ≡ true → Indexed x m (n + 1)
      go (Some k) d e = added_left k d
      go None d e = absurd (false≢true e)

  pub added_unseen : (x' : List ℕ) → is_some r ≡ false → h ≡ hash_of q → x' ≡ entered x n h → Indexed x' m (n + 1)
  added_unseen x' = go r refl
    where
      go : (o : Answer ℕ) → r ≡ o → is_some o ≡ false → h ≡ hash_of q → x' ≡ entered x n h → Indexed x' m (n + 1)
      go (Some k) d e = absurd (true≢false e)
      go None d e = added_new x' d

-- ── `keep`: the slots before it ask what they asked, and it asks the question ──
module _ (m q l : List ℕ) (n : ℕ) (long_q : length q ≡ question_width) (long_l : length l ≡ set_width) (free : n < slots_lent m) where
  pub kept_indexed : (x m' x' : List ℕ) (h : ℕ) → Indexed x m n → first_by m n q ≡ none → h ≡ hash_of q
      → m' ≡ with_slot m n q l → x' ≡ entered x n h → Indexed x' m' (n + 1)
  kept_indexed x m' x' h g f e k t =
      let fits = lent_has m n free in
      let w : List ℕ = with_slot m n q l in
      let long : length w ≡ length m = kept_long m q l n long_q long_l fits in
      let asks : slot_question w n ≡ q = kept_asks m q l n long_q long_l fits in
      let before = kept_before m q l n long_q long_l fits in
      let new : first_by w n (slot_question w n) ≡ none = rw asks (first_agree m w n (question_in q) before ∙ f) in
      rw k (indexed_enter x w n (indexed_agree m w n before long x g) (omega (arith, lent_same w m long)) h x' (e ∙ ap hash_of (sym asks)) new t)
