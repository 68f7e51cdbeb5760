-- The asked set of a node, built up as its message is read: from nothing, by a text, and by a child that closes.
use Rattle.std.specs.Prelude.{◌≡◌, refl, Bool, false, ◌||◌, ◌&&◌, List, ℕ, ◌<◌, ◌≤◌, ◌^◌, length, get_or}
use Rattle.std.proofs.Math.Path.{sym, ap}
use Rattle.std.proofs.Common.{◌∙◌, ap₂, arith}
use Rattle.std.proofs.Math.Bool.{or-false}
use Rattle.std.proofs.Math.Option.{Option, none, some}
use Rattle.std.proofs.Math.Decide.{dec_lt}
use Rattle.std.proofs.lemmas.List.{get_or-replicate}
use Rattle.std.proofs.Math.ListN.{get_or-eq_default}
use Rattle.rules.specs.Book.{most_states, Meaning}
use Rattle.rules.specs.State.{State, TRUE, LEAF, AND, OR, NOT, STEP, fits}
use Rattle.rules.specs.Value.{Value, no_text, value_of}
use Rattle.rules.specs.Tree.{Forest, childless, tree, Content, empty}
use Rattle.rules.specs.Match.{test_holds, says, some_child, matches}
use Rattle.rules.specs.Sets.{set_width, has, set_of, either, no_states, is_leaf_of, leaves_of, gives_step}
use Rattle.rules.specs.Asked.{is_asked, right_answer}
use Rattle.rules.proofs.Sets.Laws.{has_set_of, has_past, has_either, has_no_states, set_of_long, set_of_fits, set_of_agree, either_long, either_fits, set_ext}
use Rattle.rules.proofs.Match.Laws.{asked_own, asked_set, child_law, no_child}

-- ── sets made by a test, joined ──
module _ (b : Meaning) (few : length b.states ≤ most_states) where
  -- a set with the bits of a test, and none past the states, is the set of the test
  pub is_set_of : (f : State → ℕ → Bool) (s : List ℕ) → length s ≡ set_width → ((i : ℕ) → get_or s i 0 < 2 ^ 64) →
      ((k : ℕ) → k < length b.states → has s k ≡ f (get_or b.states k TRUE) k) → ((k : ℕ) → length b.states ≤ k → k < most_states → has s k ≡ false) → s ≡ set_of b.states f
  is_set_of f s e w inside past =
      set_ext s (set_of b.states f) e (set_of_long b.states f) w (set_of_fits b.states f)
      (λ k h. elim (dec_lt k (length b.states)) [
        | yes l ↦ inside k l ∙ sym (has_set_of b.states f k l few)
        | no l ↦ past k (omega arith) h ∙ sym (has_past b.states f k (omega arith) h)
      ])

  pub either_set_of : (f g : State → ℕ → Bool) → either (set_of b.states f) (set_of b.states g) ≡ set_of b.states (λ s k. f s k || g s k)
  either_set_of f g =
      is_set_of (λ s k. f s k || g s k) (either (set_of b.states f) (set_of b.states g)) (either_long (set_of b.states f) (set_of b.states g))
      (either_fits (set_of b.states f) (set_of b.states g) (set_of_fits b.states f) (set_of_fits b.states g))
      (λ k h. has_either (set_of b.states f) (set_of b.states g) k (omega arith) ∙ ap₂ ◌||◌ (has_set_of b.states f k h few) (has_set_of b.states g k h few))
      (λ k h u. has_either (set_of b.states f) (set_of b.states g) k u ∙ ap₂ ◌||◌ (has_past b.states f k h u) (has_past b.states g k h u))

  none_fits : (i : ℕ) → get_or no_states i 0 < 2 ^ 64
  none_fits i = elim (dec_lt i 8) [
    | yes h ↦ rw (get_or-replicate {A = ℕ} 8 i 0 0 h) (omega arith)
    | no h ↦ rw (get_or-eq_default no_states 0 {n = i} (omega arith)) (omega arith)
  ]

  pub none_set_of : no_states ≡ set_of b.states (λ s k. false)
  none_set_of = is_set_of (λ s k. false) no_states refl none_fits (λ k h. has_no_states k) (λ k h u. has_no_states k)

  -- ── the asked set ──
  -- of a node with no text and no child
  nothing_asked : (s : State) (here : ℕ → Bool) → is_asked s (says s no_text (some_child b childless) here) ≡ false
  nothing_asked TRUE here = refl
  nothing_asked (LEAF t) here = refl
  nothing_asked (AND i j) here = refl
  nothing_asked (OR i j) here = refl
  nothing_asked (NOT i) here = refl
  nothing_asked (STEP l s) here = no_child b l s

  pub asked_empty : asked_set b empty ≡ no_states
  unfolding asked_set
  asked_empty = set_of_agree b.states _ (λ s k. false) (λ k h. asked_own b empty k h ∙ nothing_asked (get_or b.states k TRUE) (matches b empty)) ∙ sym none_set_of

  -- of a node whose text comes
  text_asked : (s : State) (v : Value) (child : ℕ → ℕ → Bool) (p q : ℕ → Bool) →
      is_asked s (says s v child p) ≡ is_asked s (says s no_text child q) || is_leaf_of v s
  text_asked TRUE v child p q = refl
  text_asked (LEAF t) v child p q = refl
  text_asked (AND i j) v child p q = refl
  text_asked (OR i j) v child p q = refl
  text_asked (NOT i) v child p q = refl
  text_asked (STEP l s) v child p q = sym (or-false (child l s))

  pub asked_said : (s : List ℕ) (f : Forest) →
      asked_set b (record { text = some s; children = f }) ≡ either (asked_set b (record { text = none; children = f })) (leaves_of b.states (b.reads s))
  unfolding asked_set leaves_of
  asked_said s f =
      let n : Content = record { text = some s; children = f } in
      let m : Content = record { text = none; children = f } in
      set_of_agree b.states _ (λ a k. is_asked a (matches b m k) || is_leaf_of (b.reads s) a)
      (λ k h.
      asked_own b n k h ∙ text_asked (get_or b.states k TRUE) (b.reads s) (some_child b f) (matches b n) (matches b m)
      ∙ ap (λ t. t || is_leaf_of (b.reads s) (get_or b.states k TRUE)) (sym (asked_own b m k h)))
      ∙ sym (either_set_of (λ a k. is_asked a (matches b m k)) (λ a k. is_leaf_of (b.reads s) a))

  -- of a node one of whose children closes
  child_asked : (s : State) (v : Value) (kids all : ℕ → ℕ → Bool) (p q here : ℕ → Bool) (x : ℕ) →
      ((l i : ℕ) → all l i ≡ kids l i || (fits l x && here i)) → is_asked s (says s v all p) ≡ is_asked s (says s v kids q) || gives_step x here s
  child_asked TRUE v kids all p q here x e = refl
  child_asked (LEAF t) v kids all p q here x e = sym (or-false (test_holds v t))
  child_asked (AND i j) v kids all p q here x e = refl
  child_asked (OR i j) v kids all p q here x e = refl
  child_asked (NOT i) v kids all p q here x e = refl
  child_asked (STEP l i) v kids all p q here x e = e l i

  pub asked_shut : (t : Option (List ℕ)) (f : Forest) (x : ℕ) (c : Content) →
      asked_set b (record { text = t; children = tree f x c.text c.children })
      ≡ either (asked_set b (record { text = t; children = f })) (right_answer b (record { label = x; content = c }))
  unfolding asked_set right_answer
  asked_shut t f x c =
      let n : Content = record { text = t; children = tree f x c.text c.children } in
      let m : Content = record { text = t; children = f } in
      set_of_agree b.states _ (λ a k. is_asked a (matches b m k) || gives_step x (matches b c) a)
      (λ k h.
      asked_own b n k h
      ∙ child_asked (get_or b.states k TRUE) (value_of b.reads t) (some_child b f) (some_child b (tree f x c.text c.children)) (matches b n) (matches b m) (matches b c) x
      (child_law b f x c.text c.children)
      ∙ ap (λ u. u || gives_step x (matches b c) (get_or b.states k TRUE)) (sym (asked_own b m k h)))
      ∙ sym (either_set_of (λ a k. is_asked a (matches b m k)) (λ a k. gives_step x (matches b c) a))
