-- How the three demands follow from the laws of the definitions. Demands.antt states them; nothing here need be believed.
use Rattle.std.specs.Prelude.{◌≡◌, refl, ◌↔◌, Bool, true, false, List, [], ◌++◌, ℕ, zero, suc, ◌+◌, ◌-◌, ◌*◌, ◌/◌, ◌%◌, ◌^◌, ◌<◌, eqb, length, take, replicate}
use Rattle.std.proofs.Math.Path.{sym, ap}
use Rattle.std.proofs.Common.{◌∙◌, ap₂, true≢false, not-suc-le-zero, add-zero, mul_assoc, arith, length-take, get_or-take, get_or-drop, pow-add, pow_pos, eq-eqb, ne_eqb}
use Rattle.std.proofs.Math.Option.{Option, none, some}
use Rattle.std.proofs.Math.Nat.{pow-succ', add-mul-div_right, div-eq_of_lt}
use Rattle.std.proofs.Math.Decide.{dec_lt}
use Rattle.std.proofs.Math.ListN.{get_or, drop, get_or-eq_default}
use Rattle.std.proofs.Math.Seq.{drop_at}
use Rattle.lists.specs.Parts.{part}
use Rattle.lists.specs.Below.{bit, flags}
use Rattle.lists.specs.Choice.Laws.{pick_true, pick_false}
use Rattle.lists.specs.Below.Laws.{flags_lt}
use Rattle.lists.specs.Same.{same_list}
use Rattle.lists.specs.Checks
use Rattle.rules.specs.State.{State}
use Rattle.rules.specs.Book.{filter_count, states_before, states_of, meaning_of}
use Rattle.rules.specs.DayFile.{message_count, message_start, message_length, message_body}
use Rattle.rules.specs.Tree.{Forest, childless, tree, Content}
use Rattle.rules.specs.Match.{matches, filters_where, accepted_filters, MatchRule}
use Rattle.rules.specs.Sets.{Question, bit_at}
use Rattle.rules.specs.Memory.{slot_width, key_of, slot_question, slot_answer, slots_lent, Kept, first_slot, ask, FirstToAsk, slots_written}
use Rattle.rules.specs.Asked.{read_tree, day_questions, first_different, not_kept, message_row, HeldRight, day_nodes, tree_rows}
use Rattle.rules.specs.Message.{Event}
use Rattle.rules.proofs.Message.Place.{refused_at_lem, refused_where}
use Rattle.rules.specs.MessageTable.{root_alone, opens_after, message_rows}
use Rattle.rules.proofs.MessageTable.Refused.{refused_row, read_place}
use Rattle.rules.specs.Written.{written, message_shaped, written_events, AreBytes, IsMessage, Begins, Stuck}
use Rattle.lists.specs.Checks.{FirstToFail}
use Rattle.rules.specs.Run.{row_width, workspace_width, Lent, Returned, run_refusal, refused_run, pass_day, run_by, run, run_checks, with_memory}
use Rattle.rules.proofs.Run.Laws.{refused_exactly, run_refused}
use Rattle.rules.specs.Promise.{RunPromise}
use Rattle.rules.specs.Order.{Reordered, nothing, keep, swap, then}
use Rattle.rules.proofs.Asked.Different.{same_list_self}
use Rattle.rules.proofs.Memory.Laws.{slot_some, slot_none, kept_answer}
use Rattle.rules.proofs.Written.Read.{read_exactly}
use Rattle.rules.proofs.Book.Fine.{book_reading}
use Rattle.rules.proofs.Run.Day.{few_states, day_returned, day_is, memory_apart, rows_long, row_at, slot_right, day_nodes_lem}
use Rattle.rules.proofs.Order.Laws.{filters_reordered}
use Rattle.demands.specs.Words.{meaning}

-- ── a message of a day file of bytes is one of bytes ──
bytes_part : (day : List ℕ) (k : ℕ) → ((i : ℕ) → get_or day i 0 < 256) → (i : ℕ) → get_or (message_body day k) i 0 < 256
unfolding message_body part
bytes_part day k h i =
    let n : ℕ = message_length day k in
    let s : List ℕ = drop (message_start day k) day in
    elim (dec_lt i n) [
      | yes l ↦ rw (get_or-take n s i 0 l, get_or-drop (message_start day k) day i 0) (h (message_start day k + i))
      | no l ↦ rw (get_or-eq_default (take n s) 0 {n = i} (rw length-take (omega arith))) (omega arith)
    ]

-- ── from the promise ──
by_refusal : (l : Lent) (n : ℕ) → (run_by n l).refusal ≡ n
unfolding pass_day
by_refusal l zero = refl
by_refusal l (suc e) = refl

module _ (l : Lent) (g : Returned) (p : RunPromise l g) where
  pub refusal_is : g.refusal ≡ run_refusal l
  unfolding run
  refusal_is = ap (λ r. r.refusal) p ∙ by_refusal l (run_refusal l)

  refused_is : (g.refusal ≡ 0 → ⊥) → g ≡ refused_run l g.refusal
  refused_is ne = go (run_refusal l) refl
    where
      go : (n : ℕ) → run_refusal l ≡ n → g ≡ refused_run l g.refusal
      go zero e = absurd (ne (refusal_is ∙ e))
      go (suc n) e = p ∙ run_refused l n e ∙ ap (refused_run l) (sym (refusal_is ∙ e))

  pub refused_keeps : (g.refusal ≡ 0 → ⊥) →
      (g.memory ≡ l.memory) × (g.answers ≡ l.answers) × (g.workspace ≡ l.workspace) × (g.asked ≡ 0) × (g.anew ≡ 0) × (g.filled ≡ 0)
  refused_keeps ne =
      let e = refused_is ne in
      (ap (λ r. r.memory) e, ap (λ r. r.answers) e, ap (λ r. r.workspace) e, ap (λ r. r.asked) e, ap (λ r. r.anew) e, ap (λ r. r.filled) e)

  pub refused_by : (n : ℕ) → 0 < n → (g.refusal ≡ n) ↔ Checks.FirstToFail (run_checks l) n
  refused_by n h = (λ e. (refused_exactly l n h).0 (sym refusal_is ∙ e), λ e. refusal_is ∙ (refused_exactly l n h).1 e)

  module _ (e : g.refusal ≡ 0) where
    pub accepted : run_refusal l ≡ 0
    accepted = sym refusal_is ∙ e

    pub given_is : g ≡ day_returned l
    given_is = p ∙ day_is l accepted

    pub given_row : (k : ℕ) → k < message_count l.day → part g.answers (row_width * k) row_width ≡ message_row l.book (message_body l.day k)
    unfolding day_returned
    given_row k h = ap (λ r. part r.answers (row_width * k) row_width) given_is ∙ row_at l.book l.day _ (message_count l.day) k h

    given_number : (k i : ℕ) → k < message_count l.day → i < row_width → get_or g.answers (row_width * k + i) 0 ≡ get_or (message_row l.book (message_body l.day k)) i 0
    unfolding part
    given_number k i h u = sym (get_or-drop (row_width * k) g.answers i 0) ∙ sym (get_or-take row_width (drop (row_width * k) g.answers) i 0 u) ∙ ap (λ r. get_or r i 0) (given_row k h)

    pub given_refusal : (k : ℕ) → k < message_count l.day → get_or g.answers (row_width * k) 0 ≡ (read_tree (meaning l) (message_body l.day k)).refusal
    given_refusal k h = rw add-zero at (given_number k 0 h (omega arith))

    pub given_place : (k : ℕ) → k < message_count l.day → get_or g.answers (row_width * k + 1) 0 ≡ (read_tree (meaning l) (message_body l.day k)).place
    given_place k h = given_number k 1 h (omega arith)

    -- a refused message: its number, its place, and that it is none
    module _ (k : ℕ) (h : k < message_count l.day) (w : AreBytes l.day) where
      pub given_row_number : (evs : List Event) (rest : List ℕ) → message_body l.day k ≡ written_events evs ++ rest → (n : ℕ) → 0 < n →
          ((get_or g.answers (row_width * k) 0 ≡ n) × (get_or g.answers (row_width * k + 1) 0 ≡ length (written_events evs)))
          ↔ (Begins (meaning l) (written_events evs) × FirstToFail (message_rows (meaning l) (opens_after root_alone evs) rest) n)
      given_row_number evs rest b n z =
          rw (given_refusal k h, given_place k h, b) (refused_row (meaning l) evs rest (rw b at (bytes_part l.day k w)) n z)

      pub given_there : (evs : List Event) (rest : List ℕ) → message_body l.day k ≡ written_events evs ++ rest →
          ((0 < get_or g.answers (row_width * k) 0) × (get_or g.answers (row_width * k + 1) 0 ≡ length (written_events evs)))
          ↔ (Begins (meaning l) (written_events evs) × (IsMessage (meaning l) (message_body l.day k) → ⊥) × Stuck (meaning l) evs rest)
      given_there evs rest b = rw (given_refusal k h, given_place k h, b) (refused_at_lem (meaning l) evs rest (rw b at (bytes_part l.day k w)))

      pub given_where : 0 < get_or g.answers (row_width * k) 0 →
          (evs : List Event) × (rest : List ℕ) × (message_body l.day k ≡ written_events evs ++ rest) × (get_or g.answers (row_width * k + 1) 0 ≡ length (written_events evs))
      given_where n = rw (given_place k h) (refused_where (meaning l) (message_body l.day k) (bytes_part l.day k w) (rw (given_refusal k h) at n))

    pub given_read_place : (k : ℕ) → k < message_count l.day → get_or g.answers (row_width * k) 0 ≡ 0 → get_or g.answers (row_width * k + 1) 0 ≡ 0
    given_read_place k h e = given_place k h ∙ read_place (meaning l) (message_body l.day k) (sym (given_refusal k h) ∙ e)

    pub given_refused : (k : ℕ) → k < message_count l.day → (get_or g.answers (row_width * k) 0 ≡ 0 → ⊥) → get_or g.answers (row_width * k + 2) 0 ≡ 0
    given_refused k h ne = given_number k 2 h (omega arith) ∙ pick_false _ _ _ (ne_eqb _ 0 (λ r. ne (given_refusal k h ∙ r)))

    pub given_read : (k : ℕ) → k < message_count l.day → get_or g.answers (row_width * k) 0 ≡ 0 →
        get_or g.answers (row_width * k + 2) 0 ≡ accepted_filters l.book (read_tree (meaning l) (message_body l.day k)).root
    given_read k h r = given_number k 2 h (omega arith) ∙ pick_true _ _ _ (eq-eqb _ 0 (sym (given_refusal k h) ∙ r))

    pub given_tree : (k : ℕ) → k < message_count l.day → ((i : ℕ) → get_or l.day i 0 < 256) → (root : Content) →
        ((get_or g.answers (row_width * k) 0 ≡ 0) × ((read_tree (meaning l) (message_body l.day k)).root ≡ root))
        ↔ ((message_body l.day k ≡ written root.children) × (message_shaped (meaning l) root ≡ true))
    given_tree k h w root = rw (given_refusal k h) (read_exactly (meaning l) (message_body l.day k) (bytes_part l.day k w) root)

    pub given_reading : (m : Content → ℕ → Bool) → MatchRule (meaning l) m → (n : Content) (j : ℕ) → j < length (states_of l.book) → m n j ≡ matches (meaning l) n j
    given_reading = book_reading l accepted

    -- past what is written
    pub answers_past : drop (row_width * message_count l.day) g.answers ≡ drop (row_width * message_count l.day) l.answers
    unfolding day_returned
    answers_past = ap (λ r. drop (row_width * message_count l.day) r.answers) given_is ∙ drop_at (tree_rows l.book l.day (message_count l.day)) _ _ (rows_long l.book l.day (message_count l.day))

    pub workspace_is : g.workspace ≡ replicate workspace_width 0 ++ drop workspace_width l.workspace
    unfolding day_returned
    workspace_is = ap (λ r. r.workspace) given_is

    -- ── the counts and the memory ──
    pub asked_is : g.asked ≡ length (day_questions l.book l.day)
    unfolding day_returned
    asked_is = ap (λ r. r.asked) given_is

    pub anew_is : g.anew ≡ not_kept (slots_lent l.memory) [] (day_questions l.book l.day)
    unfolding day_returned
    anew_is = ap (λ r. r.anew) given_is

    pub filled_is : g.filled ≡ length (first_different (slots_lent l.memory) (day_questions l.book l.day))
    unfolding day_returned
    filled_is = ap (λ r. r.filled) given_is

    pub memory_is : g.memory ≡ slots_written (states_of l.book) (first_different (slots_lent l.memory) (day_questions l.book l.day))
        ++ drop (slot_width * length (first_different (slots_lent l.memory) (day_questions l.book l.day))) l.memory
    unfolding day_returned
    memory_is = ap (λ r. r.memory) given_is

    pub slots_right : (i : ℕ) → i < g.filled → HeldRight (meaning l) (day_nodes (meaning l) l.day) g.memory i
    slots_right i h =
        rw (memory_is, day_nodes_lem l.book l.day)
        (slot_right (meaning l) (few_states l accepted) (day_nodes (meaning l) l.day) (slots_lent l.memory) _ i (rw (filled_is, day_nodes_lem l.book l.day) at h))

-- ── another memory lent ──
pub any_memory : (l : Lent) (m : List ℕ) (g h : Returned) → RunPromise l g → RunPromise (with_memory l m) h →
    (h.refusal ≡ g.refusal) × (h.answers ≡ g.answers) × (h.asked ≡ g.asked)
any_memory l m g h p q = rw (p, q) (memory_apart l m)

-- ── the inner call ──
pub first_held : (b : List State) (q : Question) (k : Kept) (i : ℕ) → FirstToAsk k.memory k.filled q i → ask b q k ≡ record { answer = slot_answer k.memory i; kept = k }
first_held b q k i f = go (first_slot k.memory k.filled q) refl
  where
    asks : (j : ℕ) → slot_question k.memory j ≡ key_of q → same_list (slot_question k.memory j) (key_of q) ≡ true
    asks j e = rw e (same_list_self (key_of q))

    go : (o : Option ℕ) → first_slot k.memory k.filled q ≡ o → ask b q k ≡ record { answer = slot_answer k.memory i; kept = k }
    go none u = absurd (true≢false (sym (asks i f.asks) ∙ slot_none k.memory k.filled q u i f.filled))
    go (some j) u =
        let s : FirstToAsk k.memory k.filled q j = slot_some k.memory k.filled q j u in
        let below : j < i → ⊥ = λ h. true≢false (sym (asks j s.asks) ∙ f.first j h) in
        let above : i < j → ⊥ = λ h. true≢false (sym (asks i f.asks) ∙ s.first i h) in
        let e : j ≡ i = omega (arith, below, above) in
        rw (← e) (kept_answer b q k j u)

-- ── filter by filter ──
flags_bit : (f : ℕ → Bool) (n k : ℕ) → k < n → bit_at (flags f n) k ≡ f k
unfolding flags
flags_bit f zero k h = absurd (not-suc-le-zero h)
flags_bit f (suc n) k h = elim (dec_lt k n) [
  | yes l ↦ below l ∙ flags_bit f n k l
  | no l ↦ let e : k ≡ n = omega arith in rw e (own (f n))
]
  where
    -- 2 ^ n is twice some multiple of 2 ^ k
    below : k < n → bit_at (flags f n + bit (f n) * 2 ^ n) k ≡ bit_at (flags f n) k
    below l =
        let c : ℕ = bit (f n) * 2 ^ (n - suc k) in
        let r : n ≡ n - suc k + suc k = omega arith in
        let e : bit (f n) * 2 ^ n ≡ c * 2 * 2 ^ k
        = ap (λ j. bit (f n) * 2 ^ j) r
        ∙ ap (λ j. bit (f n) * j) (pow-add 2 (n - suc k) (suc k) ∙ ap (λ j. 2 ^ (n - suc k) * j) (pow-succ' 2 k))
        ∙ sym (mul_assoc c 2 (2 ^ k) ∙ mul_assoc (bit (f n)) (2 ^ (n - suc k)) (2 * 2 ^ k)) in
        let d : (flags f n + bit (f n) * 2 ^ n) / 2 ^ k ≡ flags f n / 2 ^ k + c * 2 = rw e (add-mul-div_right (flags f n) (c * 2) (pow_pos k)) in
        let m : (flags f n / 2 ^ k + c * 2) % 2 ≡ flags f n / 2 ^ k % 2 = omega arith in
        rw (d, m)

    own : (x : Bool) → bit_at (flags f n + bit x * 2 ^ n) n ≡ x
    own x = rw (add-mul-div_right (flags f n) (bit x) (pow_pos n), div-eq_of_lt (flags_lt f n)) (one x)
      where
        one : (x : Bool) → eqb ((0 + bit x) % 2) 1 ≡ x
        one true = refl
        one false = refl

pub accepted_bit : (book : List ℕ) (root : Content) (i : ℕ) → i < filter_count book → bit_at (accepted_filters book root) i ≡ matches (meaning_of book) root (states_before book i)
unfolding accepted_filters filters_where
accepted_bit book root i h = flags_bit (λ k. matches (meaning_of book) root (states_before book k)) (filter_count book) i h

-- ── order of children ──
-- the sum of all labels, at any depth
abbrev pub labels : Forest → ℕ
labels childless = 0
labels (tree f x t kids) = labels f + (x + labels kids)

pub labels_same : {f g : Forest} → Reordered f g → labels f ≡ labels g
labels_same nothing = refl
labels_same (keep {x} p q) = ap₂ (λ m n. n + (x + m)) (labels_same p) (labels_same q)
labels_same (swap {x} {y} {k} {m} {f}) = omega arith
labels_same (then p q) = labels_same p ∙ labels_same q

pub one_label : (f kids : Forest) (t : Option (List ℕ)) (x y : ℕ) → (x ≡ y → ⊥) → Reordered (tree f x t kids) (tree f y t kids) → ⊥
one_label f kids t x y ne p = let e : labels f + (x + labels kids) ≡ labels f + (y + labels kids) = labels_same p in ne (omega arith)

pub accepted_permuted : {a b : List ℕ} {c d : Content} → a ≡ b → c.text ≡ d.text → Reordered c.children d.children → accepted_filters a c ≡ accepted_filters b d
accepted_permuted {a} {b} {c} {d} e t p = filters_reordered a c.text p ∙ ap₂ (λ l u. accepted_filters l (record { text = u; children = d.children })) e t
