-- The match rule read off state kind by state kind, that any function with these laws is this one, and that a completed question is what matches.
use Rattle.std.specs.Prelude.{◌≡◌, refl, Bool, true, false, ◌||◌, ◌&&◌, not, List, ℕ, zero, suc, ◌+◌, ◌<◌, ◌≤◌, length, get_or}
use Rattle.std.proofs.Common.{sym, ◌∙◌, ap, ap₂, zero-add, arith}
use Rattle.std.proofs.Math.Path.{fun_ext}
use Rattle.std.proofs.Math.Option.{Option}
use Rattle.rules.specs.Book.{most_states, Meaning}
use Rattle.rules.specs.State.{Test, State, TRUE, LEAF, AND, OR, NOT, STEP, fits}
use Rattle.rules.specs.Value.{Value, value_of}
use Rattle.rules.specs.Tree.{Forest, childless, tree, Content, Node}
use Rattle.rules.specs.Match.{test_holds, says, some_child, matches, child_by, MatchRule}
use Rattle.rules.specs.Sets.{has, set_of, completes, completed, gives_step, work_out}
use Rattle.rules.specs.Asked.{is_asked, question_of, right_answer}
use Rattle.rules.proofs.Match.Settle.{Fine, settle_law, settle_agree, says_rests}
use Rattle.rules.specs.Leading.{Higher}
use Rattle.rules.specs.Leading.{Inside}
use Rattle.rules.proofs.Sets.Laws.{has_set_of, set_of_agree}

-- ── state kind by state kind ──
pub matches_law : (b : Meaning) (n : Content) (j : ℕ) → j < length b.states → Higher (get_or b.states j TRUE) j →
    matches b n j ≡ says (get_or b.states j TRUE) (value_of b.reads n.text) (some_child b n.children) (matches b n)
unfolding matches
matches_law b n j h u =
    settle_law (λ a k here. says a (value_of b.reads n.text) (some_child b n.children) here) b.states j h
    (says_rests (value_of b.reads n.text) (some_child b n.children) (get_or b.states j TRUE) j u)

module _ (b : Meaning) (fine : Fine b.states) (n : Content) (j : ℕ) (h : j < length b.states) where
  -- what a state of a known kind says
  by_kind : (s : State) → get_or b.states j TRUE ≡ s → matches b n j ≡ says s (value_of b.reads n.text) (some_child b n.children) (matches b n)
  by_kind s e = matches_law b n j h (fine.higher j h) ∙ ap (λ a. says a (value_of b.reads n.text) (some_child b n.children) (matches b n)) e

  pub match_true : get_or b.states j TRUE ≡ TRUE → matches b n j ≡ true
  match_true e = by_kind TRUE e

  pub match_leaf : (t : Test) → get_or b.states j TRUE ≡ LEAF t → matches b n j ≡ test_holds (value_of b.reads n.text) t
  match_leaf t e = by_kind (LEAF t) e

  pub match_and : (i k : ℕ) → get_or b.states j TRUE ≡ AND i k → matches b n j ≡ matches b n i && matches b n k
  match_and i k e = by_kind (AND i k) e

  pub match_or : (i k : ℕ) → get_or b.states j TRUE ≡ OR i k → matches b n j ≡ matches b n i || matches b n k
  match_or i k e = by_kind (OR i k) e

  pub match_not : (i : ℕ) → get_or b.states j TRUE ≡ NOT i → matches b n j ≡ not (matches b n i)
  match_not i e = by_kind (NOT i) e

  pub match_step : (l s : ℕ) → get_or b.states j TRUE ≡ STEP l s → matches b n j ≡ some_child b n.children l s
  match_step l s e = by_kind (STEP l s) e

-- a node with no child, and with one child more
pub no_child : (b : Meaning) (l s : ℕ) → some_child b childless l s ≡ false
unfolding some_child
no_child b l s = refl

pub child_law : (b : Meaning) (f : Forest) (x : ℕ) (t : Option (List ℕ)) (kids : Forest) (l s : ℕ) →
    some_child b (tree f x t kids) l s ≡ some_child b f l s || (fits l x && matches b (record { text = t; children = kids }) s)
unfolding some_child matches
child_law b f x t kids l s = refl

says_agree : (s : State) (k n : ℕ) (v : Value) (p q : ℕ → ℕ → Bool) (f g : ℕ → Bool) → Higher s k → Inside s n →
    ((l i : ℕ) → i < n → p l i ≡ q l i) → ((i : ℕ) → k < i → i < n → f i ≡ g i) → says s v p f ≡ says s v q g
says_agree TRUE k n v p q f g h u c e = refl
says_agree (LEAF t) k n v p q f g h u c e = refl
says_agree (AND i j) k n v p q f g h u c e = ap₂ ◌&&◌ (e i h.0 u.0) (e j h.1 u.1)
says_agree (OR i j) k n v p q f g h u c e = ap₂ ◌||◌ (e i h.0 u.0) (e j h.1 u.1)
says_agree (NOT i) k n v p q f g h u c e = ap not (e i h u)
says_agree (STEP l s) k n v p q f g h u c e = c l s u

module _ (b : Meaning) (fine : Fine b.states) (m : Content → ℕ → Bool) (reads : MatchRule b m) where
  -- d bounds the states above j
  at_node : (n : Content) → ((l i : ℕ) → i < length b.states → child_by m n.children l i ≡ some_child b n.children l i) →
      (d j : ℕ) → length b.states ≤ j + d → j < length b.states → m n j ≡ matches b n j
  at_node n c zero j h u = absurd (omega arith)
  at_node n c (suc d) j h u =
      reads.law n j u
      ∙ says_agree (get_or b.states j TRUE) j (length b.states) (value_of b.reads n.text) (child_by m n.children) (some_child b n.children) (m n) (matches b n) (fine.higher j u) (fine.inside j u) c
      (λ i p q. at_node n c d i (omega arith) q)
      ∙ sym (matches_law b n j u (fine.higher j u))

  children_agree : (f : Forest) (l i : ℕ) → i < length b.states → child_by m f l i ≡ some_child b f l i
  children_agree childless l i h = sym (no_child b l i)
  children_agree (tree f x t kids) l i h =
      ap₂ (λ p q. p || (fits l x && q)) (children_agree f l i h)
      (at_node (record { text = t; children = kids }) (children_agree kids) (length b.states) i (omega arith) h)
      ∙ sym (child_law b f x t kids l i)

  -- any function with the laws of the match rule is the match rule
  pub one_reading : (n : Content) (j : ℕ) → j < length b.states → m n j ≡ matches b n j
  one_reading n j h = at_node n (children_agree n.children) (length b.states) j (omega arith) h

-- the match rule has them itself
pub matches_rule : (b : Meaning) → Fine b.states → MatchRule b (matches b)
matches_rule b fine = record { law = λ n j h. matches_law b n j h (fine.higher j h) ∙ ap (λ c. says (get_or b.states j TRUE) (value_of b.reads n.text) c (matches b n)) (fun_ext λ l. fun_ext λ s. same n.children l s) }
  where
    same : (f : Forest) (l s : ℕ) → some_child b f l s ≡ child_by (matches b) f l s
    same childless l s = no_child b l s
    same (tree f x t kids) l s = child_law b f x t kids l s ∙ ap (λ p. p || (fits l x && matches b (record { text = t; children = kids }) s)) (same f l s)

-- ── the completed set of a node is the set of states that match it ──
-- LEAF and STEP stand as asked, so completing says what the match rule says
completes_says : (s : State) (v : Value) (child : ℕ → ℕ → Bool) (own : Bool) (here all : ℕ → Bool) → own ≡ is_asked s (says s v child all) →
    completes s own here ≡ says s v child here
completes_says TRUE v child own here all e = refl
completes_says (LEAF t) v child own here all e = e
completes_says (AND i j) v child own here all e = refl
completes_says (OR i j) v child own here all e = refl
completes_says (NOT i) v child own here all e = refl
completes_says (STEP l s) v child own here all e = e

-- what an asked state says needs no state above it
pub asked_own : (b : Meaning) (n : Content) (k : ℕ) → k < length b.states →
    is_asked (get_or b.states k TRUE) (matches b n k) ≡ is_asked (get_or b.states k TRUE) (says (get_or b.states k TRUE) (value_of b.reads n.text) (some_child b n.children) (matches b n))
asked_own b n k h = go (get_or b.states k TRUE) refl
  where
    go : (s : State) → get_or b.states k TRUE ≡ s → is_asked s (matches b n k) ≡ is_asked s (says s (value_of b.reads n.text) (some_child b n.children) (matches b n))
    go TRUE e = refl
    go (LEAF t) e = matches_law b n k h (rw e tt) ∙ ap (λ a. says a (value_of b.reads n.text) (some_child b n.children) (matches b n)) e
    go (AND i j) e = refl
    go (OR i j) e = refl
    go (NOT i) e = refl
    go (STEP l s) e = matches_law b n k h (rw e tt) ∙ ap (λ a. says a (value_of b.reads n.text) (some_child b n.children) (matches b n)) e

-- the LEAF and STEP states that match a node
unfoldable pub asked_set : Meaning → Content → List ℕ
asked_set b n = set_of b.states (λ s k. is_asked s (matches b n k))

pub completed_node : (b : Meaning) → length b.states ≤ most_states → (n : Content) (j : ℕ) → completed b.states (asked_set b n) j ≡ matches b n j
unfolding completed matches asked_set
completed_node b few n j =
    settle_agree _ _ b.states 0 j
    (λ i h here. rw zero-add
    (completes_says (get_or b.states i TRUE) (value_of b.reads n.text) (some_child b n.children) (has (asked_set b n) i) here (matches b n)
    (has_set_of b.states (λ s k. is_asked s (matches b n k)) i h few ∙ asked_own b n i h)))

-- so the answer worked out for a node's question is its right answer
pub work_is_right : (b : Meaning) → length b.states ≤ most_states → (n : Node) → work_out b.states (question_of b n) ≡ right_answer b n
unfolding work_out question_of right_answer asked_set
work_is_right b few n =
    set_of_agree b.states _ _ (λ k h. ap (λ here. gives_step n.label here (get_or b.states k TRUE)) (fun_ext (completed_node b few n.content)))
