-- What the chains of an index hold: at each place the entered slots of that hash, the last first. And so the first hit is the first slot that asks.
use Rattle.std.specs.Prelude.{◌≡◌, Bool, ◌&&◌, List, eqb, length, get_or, set, replicate}
use Rattle.std.proofs.Math.Path.{refl, sym}
use Rattle.std.proofs.Common.{ap, ◌∙◌, true≢false, arith, get_or-set_same, eqb-true, eq-eqb, ne_eqb}
use Rattle.std.proofs.Math.Bool.{true, false, and-false}
use Rattle.std.proofs.lemmas.Bool.{false≢true}
use Rattle.std.proofs.Math.Option.{Option, none, some}
use Prim.Native.Nat.{ℕ, zero, suc, ◌+◌, ◌≤◌, ◌<◌}
use Rattle.std.proofs.Math.Numerals.{add-one}
use Rattle.std.proofs.Math.Decide.{ℕ_discrete}
use Rattle.std.proofs.Math.ListN.{length-set}
use Rattle.std.proofs.lemmas.List.{get_or-replicate, length-replicate}
use Rattle.std.proofs.Math.Seq.{get_or-set_other}
use Rattle.lists.specs.Choice.{pick}
use Rattle.lists.specs.Same.{same_list}
use Rattle.rules.specs.Memory.{question_width, most_slots, question_in, slot_question}
use Rattle.rules.proofs.Memory.Key.{key_of_lem}
use Rattle.rules.proofs.Asked.Different.{same_list_eq}
use Rattle.memory_slots.specs.Slots.{or_else, or_none, first_more}
use Rattle.memory_hash.specs.Hash.{heads, hash_of, hash_small}
use Rattle.memory_index.specs.Index.{index_room, first_by, is_none, is_first, entered, index_of}

-- slot i is entered at place j: its hash is j, and no slot before it asks its question
unfoldable pub enters : List ℕ → ℕ → ℕ → Bool
enters m i j = eqb (hash_of (slot_question m i)) j && is_first m i

-- of the first k slots the last that is entered at j, counted from 1; 0 where there is none
unfoldable pub last_of : List ℕ → ℕ → ℕ → ℕ
last_of m zero j = 0
last_of m (suc i) j = pick (enters m i j) (suc i) (last_of m i j)

-- ── which slots are entered ──
enters_first : (m : List ℕ) (i j : ℕ) → is_first m i ≡ true → hash_of (slot_question m i) ≡ j → enters m i j ≡ true
unfolding enters
enters_first m i j f e = rw (f, eq-eqb _ _ e)

enters_other : (m : List ℕ) (i j : ℕ) → (hash_of (slot_question m i) ≡ j → ⊥) → enters m i j ≡ false
unfolding enters
enters_other m i j e = rw (ne_eqb _ _ e)

enters_later : (m : List ℕ) (i j : ℕ) → is_first m i ≡ false → enters m i j ≡ false
unfolding enters
enters_later m i j f = rw f (and-false (eqb (hash_of (slot_question m i)) j))

enters_is : (m : List ℕ) (i j : ℕ) → enters m i j ≡ true → (hash_of (slot_question m i) ≡ j) × (is_first m i ≡ true)
unfolding enters
enters_is m i j e = go (eqb (hash_of (slot_question m i)) j) refl e
  where
    go : (b : Bool) → eqb (hash_of (slot_question m i)) j ≡ b → b && is_first m i ≡ true → (hash_of (slot_question m i) ≡ j) × (is_first m i ≡ true)
    go true d x = (eqb-true _ _ d, x)
    go false d x = absurd (false≢true x)

-- ── one slot more, seen from a question of nine numbers ──
module _ (m w : List ℕ) (long : length w ≡ question_width) where
  abbrev here : ℕ → Option ℕ
  here i = pick (same_list (slot_question m i) w) (some i) none

  by_more : (i : ℕ) → first_by m (suc i) w ≡ or_else (first_by m i w) (here i)
  by_more i = first_more m i (question_in w) ∙ rw (key_of_lem w long)

  -- one that asks another question changes nothing
  pub by_other : (i : ℕ) → same_list (slot_question m i) w ≡ false → first_by m (suc i) w ≡ first_by m i w
  unfolding pick
  by_other i e = by_more i ∙ rw e (or_none (first_by m i w))

  -- one that is entered is the first that asks its question
  pub by_entered : (i j : ℕ) → enters m i j ≡ true → same_list (slot_question m i) w ≡ true → first_by m (suc i) w ≡ some i
  unfolding is_first pick or_else
  by_entered i j h e = by_more i ∙ rw e (go (first_by m i w) (rw (same_list_eq _ _ e) at (enters_is m i j h).1))
    where
      go : (f : Option ℕ) → is_none f ≡ true → or_else f (some i) ≡ some i
      go (some k) x = absurd (false≢true x)
      go none x = refl

  -- one that is not entered at the question's hash changes nothing
  pub by_left : (i : ℕ) → enters m i (hash_of w) ≡ false → first_by m (suc i) w ≡ first_by m i w
  unfolding enters is_first or_else
  by_left i h = go (same_list (slot_question m i) w) refl
    where
      old : (f g : Option ℕ) → is_none f ≡ false → or_else f g ≡ f
      old (some k) g x = refl
      old none g x = absurd (true≢false x)

      go : (b : Bool) → same_list (slot_question m i) w ≡ b → first_by m (suc i) w ≡ first_by m i w
      go true e = by_more i ∙ old (first_by m i w) (here i) (rw (same_list_eq _ _ e, eq-eqb (hash_of w) (hash_of w) refl) at h)
      go false e = by_other i e

  -- so nothing past the last entered at its hash matters
  pub last_first : (k : ℕ) → first_by m (last_of m k (hash_of w)) w ≡ first_by m k w
  unfolding last_of pick
  last_first zero = refl
  last_first (suc k) = go (enters m k (hash_of w)) refl (last_first k)
    where
      go : (b : Bool) → enters m k (hash_of w) ≡ b → first_by m (last_of m k (hash_of w)) w ≡ first_by m k w
          → first_by m (pick b (suc k) (last_of m k (hash_of w))) w ≡ first_by m (suc k) w
      go true d ih = refl
      go false d ih = ih ∙ sym (by_left k d)

-- ── the last that is entered ──
pub last_le : (m : List ℕ) (k j : ℕ) → last_of m k j ≤ k
unfolding last_of pick
last_le m zero j = omega arith
last_le m (suc i) j = go (enters m i j) (last_le m i j)
  where
    go : (b : Bool) → last_of m i j ≤ i → pick b (suc i) (last_of m i j) ≤ suc i
    go true ih = omega arith
    go false ih = omega arith

pub last_enters : (m : List ℕ) (k j i : ℕ) → last_of m k j ≡ suc i → enters m i j ≡ true
unfolding last_of pick
last_enters m zero j i e = absurd (omega arith)
last_enters m (suc k) j i e = go (enters m k j) refl (last_enters m k j i) e
  where
    go : (b : Bool) → enters m k j ≡ b → (last_of m k j ≡ suc i → enters m i j ≡ true) → pick b (suc k) (last_of m k j) ≡ suc i → enters m i j ≡ true
    go true d ih x = let z : k ≡ i = omega arith in rw z at d
    go false d ih x = ih x

-- ── what the index holds ──
pub record Chained (x m : List ℕ) (n : ℕ) : Type 0 where
  pub long : length x ≡ index_room
  pub head : (j : ℕ) → j < heads → get_or x j 0 ≡ last_of m n j
  pub chain : (i j : ℕ) → i < n → enters m i j ≡ true → get_or x (heads + i) 0 ≡ last_of m i j

chained_none : (m : List ℕ) (k : ℕ) → k ≡ index_room → Chained (replicate k 0) m 0
unfolding last_of
chained_none m k e = record {
  long = length-replicate k 0 ∙ e;
  head = λ j h. get_or-replicate k j 0 0 (omega arith);
  chain = λ i j h y. absurd (omega arith);
}

module _ (x m : List ℕ) (n : ℕ) (g : Chained x m n) (room : n < most_slots) where
  abbrev hash : ℕ
  hash = hash_of (slot_question m n)

  small : hash < heads
  small = hash_small (slot_question m n)

  abbrev next : List ℕ
  next = set x (heads + n) (get_or x hash 0)

  enter_head : (j : ℕ) → is_first m n ≡ true → j < heads → get_or (set next hash (suc n)) j 0 ≡ last_of m (suc n) j
  unfolding last_of pick
  enter_head j f k = elim (ℕ_discrete hash j) [
    | yes e ↦ rw (enters_first m n j f e, e) (get_or-set_same (set x (heads + n) (get_or x j 0)) j (suc n) 0 (simp length-set (omega (arith, g.long))))
    | no e ↦ rw (enters_other m n j e) (get_or-set_other next hash j (suc n) 0 (λ y. e (sym y))
        ∙ get_or-set_other x (heads + n) j _ 0 (λ y. omega arith) ∙ g.head j k)
  ]

  enter_chain : (i j : ℕ) → i < suc n → enters m i j ≡ true → get_or (set next hash (suc n)) (heads + i) 0 ≡ last_of m i j
  enter_chain i j k y = get_or-set_other next hash (heads + i) (suc n) 0 (λ z. omega (arith, small)) ∙ elim (ℕ_discrete i n) [
    | yes e ↦ rw e (get_or-set_same x (heads + n) _ 0 (omega (arith, g.long)) ∙ g.head hash small ∙ ap (last_of m n) (enters_is m n j (rw e at y)).0)
    | no e ↦ get_or-set_other x (heads + n) (heads + i) _ 0 (λ z. e (omega arith)) ∙ g.chain i j (omega arith) y
  ]

  chained_enter : is_first m n ≡ true → Chained (entered x n hash) m (suc n)
  unfolding entered
  chained_enter f = rw add-one (record {
    long = simp length-set g.long;
    head = λ j k. enter_head j f k;
    chain = λ i j k y. enter_chain i j k y;
  })

  chained_left : is_first m n ≡ false → Chained x m (suc n)
  unfolding last_of pick
  chained_left f = record {
    long = g.long;
    head = λ j h. rw (enters_later m n j f) (g.head j h);
    chain = λ i j h y. elim (ℕ_discrete i n) [
      | yes e ↦ absurd (true≢false (sym (rw e at y) ∙ enters_later m n j f))
      | no e ↦ g.chain i j (omega arith) y
    ];
  }

pub chained : (m : List ℕ) (n : ℕ) → n ≤ most_slots → Chained (index_of m n) m n
unfolding index_of pick
chained m zero h = chained_none m index_room refl
chained m (suc n) h = go (is_first m n) refl (chained m n (omega arith))
  where
    go : (b : Bool) → is_first m n ≡ b → Chained (index_of m n) m n
        → Chained (pick b (entered (index_of m n) n (hash_of (slot_question m n))) (index_of m n)) m (suc n)
    go true f g = chained_enter (index_of m n) m n g h f
    go false f g = chained_left (index_of m n) m n g h f
