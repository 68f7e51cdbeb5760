-- What an event does in the workspace and the memory is what the rules say that it does.
use Rattle.std.specs.Prelude.{◌≡◌, false, length, get_or, take, drop}
use Rattle.std.proofs.Math.Path.{refl, ap}
use Rattle.std.proofs.Common.{sym, ◌∙◌, ap₂, add-one, drop-cons}
use Rattle.std.proofs.Math.Bool.{true}
use mathlib.Core.List.{List, [], ◌∷◌}
use Prim.Native.Nat.{ℕ, zero, suc, ◌+◌, ◌-◌, ◌<◌, ◌≤◌}
use native.Mathlib.Omega.{arith}
use Rattle.std.proofs.Math.Dec.{leb}
use Rattle.std.proofs.Math.ListN.{length-drop}
use borrow.Author.Tests.{le-ltb, le-leb, lt-leb}
use Rattle.lists.specs.Choice.{pick}
use Rattle.lists.specs.Parts.{part}
use Rattle.rules.specs.Book.{Meaning, out_of_range}
use Rattle.rules.specs.Bytes.{le2}
use Rattle.rules.specs.State.{attribute}
use Rattle.rules.specs.Message.{Event, text, bad, got, labelled, texted, Level, Reading, start_refusal, text_refusal, end_refusal, stage_after, Next, refused, on, unless, on_start, on_text, on_end, shut_into}
use Rattle.rules.specs.Sets.{either, leaves_of, no_states}
use Rattle.rules.specs.Pass.{Carried, ask_next, asking}
use Rattle.message_levels.specs.Level.{HasLevel, OneLevel, label_in, stage_in, set_at, asks_at, level_of, opened_at, staged_at, joined_at}
use Rattle.message_levels.specs.Laws.{opened_one, staged_one, joined_one, opened_holds, staged_holds, joined_holds, other_holds, has_still}
use Rattle.message_starts.specs.Starts.{child_opened, start_room}
use Rattle.message_texts.specs.Texts.{held_at, held_by}
use Rattle.message_ends.specs.Ends.{close_of, end_inside}
use Rattle.memory_ask.specs.Ask.{carried_in}
use Rattle.message_events.specs.declared.Reader.{Reader}
use Rattle.message_events.specs.Meant.{Stepped, goes_on, refused_at}
use Rattle.message_events.specs.Step.{start_by, start_for, text_step, text_for, counts_in, ended, end_by, end_for}

-- ── the reading that the workspace, the memory and the reader's state hold ──
-- the levels under level d, the innermost first
unfoldable pub levels_under : List ℕ → ℕ → List (Level (List ℕ))
levels_under ws zero = []
levels_under ws (suc d) = level_of ws d ∷ levels_under ws d

unfoldable pub reading_of : List ℕ → List ℕ → Reader → Reading (List ℕ) Carried
reading_of ws m s = record { place = s.place; top = level_of ws s.depth; under = levels_under ws s.depth; state = carried_in m s.counts }

abbrev pub next_of : Stepped → List ℕ → List ℕ → Next (List ℕ) Carried
next_of (goes_on t) ws m = on (reading_of ws m t)
next_of (refused_at e p) ws m = refused e

abbrev pub ending : Stepped × List ℕ × List ℕ → Next (List ℕ) Carried
ending y = next_of y.0 y.1 y.2

-- ── levels ──
pub under_long : (ws : List ℕ) (d : ℕ) → length (levels_under ws d) ≡ d
unfolding levels_under
under_long ws zero = refl
under_long ws (suc d) = ap suc (under_long ws d)

under_more : (ws : List ℕ) (d : ℕ) → levels_under ws (d + 1) ≡ level_of ws d ∷ levels_under ws d
unfolding levels_under
under_more ws d = rw (add-one d) refl

under_same : (ws w : List ℕ) (d : ℕ) → ((e : ℕ) → e < d → level_of w e ≡ level_of ws e) → levels_under w d ≡ levels_under ws d
unfolding levels_under
under_same ws w zero f = refl
under_same ws w (suc d) f = ap₂ (λ (x : Level (List ℕ)) l. x ∷ l) (f d (omega arith)) (under_same ws w d (λ e h. f e (omega arith)))

-- ── the event at a place of the body ──
module _ (f : ℕ → Event) (body : List ℕ) (at : ℕ) where
  pub labelled_there : 3 ≤ length body - at → labelled f (drop (suc at) body) ≡ got (f (le2 body (at + 1))) 3
  labelled_there h =
      let a : suc at ≡ at + 1 = omega arith in
      let b : suc (at + 1) ≡ at + 1 + 1 = omega arith in
      rw (a, drop-cons body (at + 1) 0 (omega arith), b, drop-cons body (at + 1 + 1) 0 (omega arith)) refl

  pub labelled_cut : length body - at < 3 → labelled f (drop (suc at) body) ≡ bad 22
  labelled_cut h = go (drop (suc at) body) (rw length-drop (omega arith))
    where
      go : (l : List ℕ) → length l < 2 → labelled f l ≡ bad 22
      go [] k = refl
      go (x ∷ []) k = refl
      go (x ∷ y ∷ l) k = absurd (omega arith)

module _ (body : List ℕ) (at : ℕ) where
  pub texted_none : length body - at < 2 → texted (drop (suc at) body) ≡ bad 22
  texted_none h = go (drop (suc at) body) (rw length-drop (omega arith))
    where
      go : (l : List ℕ) → length l < 1 → texted l ≡ bad 22
      go [] k = refl
      go (x ∷ l) k = absurd (omega arith)

  module _ (room : 2 ≤ length body - at) where
    texted_at : texted (drop (suc at) body)
        ≡ elim (leb (get_or body (at + 1) 0) (length (drop (at + 2) body))) [ true ↦ got (text (take (get_or body (at + 1) 0) (drop (at + 2) body))) (2 + get_or body (at + 1) 0) | false ↦ bad 22 ]
    texted_at =
        let a : suc at ≡ at + 1 = omega arith in
        let b : suc (at + 1) ≡ at + 2 = omega arith in
        rw (a, drop-cons body (at + 1) 0 (omega arith), b) refl

    pub texted_there : get_or body (at + 1) 0 + 2 ≤ length body - at →
        texted (drop (suc at) body) ≡ got (text (part body (at + 2) (get_or body (at + 1) 0))) (2 + get_or body (at + 1) 0)
    unfolding part
    texted_there h =
        let l : leb (get_or body (at + 1) 0) (length (drop (at + 2) body)) ≡ true = le-leb (get_or body (at + 1) 0) (length (drop (at + 2) body)) (rw length-drop (omega arith)) in
        texted_at ∙ rw l refl

    pub texted_cut : length body - at < get_or body (at + 1) 0 + 2 → texted (drop (suc at) body) ≡ bad 22
    texted_cut h =
        let l : leb (get_or body (at + 1) 0) (length (drop (at + 2) body)) ≡ false = lt-leb (get_or body (at + 1) 0) (length (drop (at + 2) body)) (rw length-drop (omega arith)) in
        texted_at ∙ rw l refl

-- ── each event ──
module _ (b : Meaning) (ws m : List ℕ) (s : Reader) (has : HasLevel ws s.depth) where
  -- the reading after a start
  child_reading : (x t : ℕ) → HasLevel ws (s.depth + 1) →
      reading_of (child_opened ws s.depth t x) m (record { place = s.place + 3; depth = s.depth + 1; counts = s.counts })
      ≡ record {
        place = s.place + 3;
        top = record { label = x; stage = 0; held = no_states };
        under = record { label = label_in ws s.depth; stage = stage_after (attribute x) t; held = set_at ws s.depth } ∷ levels_under ws s.depth;
        state = carried_in m s.counts;
      }
  unfolding reading_of child_opened
  child_reading x t more =
      let d : ℕ = s.depth in
      let w : List ℕ = staged_at ws d (stage_after (attribute x) t) in
      let one : OneLevel ws w d = staged_one ws d has (stage_after (attribute x) t) in
      let deep : HasLevel w (d + 1) = has_still ws (d + 1) more w d one in
      let two : OneLevel w (opened_at w (d + 1) x) (d + 1) = opened_one w (d + 1) deep x in
      let here : level_of (opened_at w (d + 1) x) d ≡ record { label = label_in ws d; stage = stage_after (attribute x) t; held = set_at ws d }
      = other_holds w (d + 1) deep (opened_at w (d + 1) x) two d (λ e. omega arith) ∙ staged_holds ws d has (stage_after (attribute x) t) in
      let rest : levels_under (opened_at w (d + 1) x) d ≡ levels_under ws d
      = under_same ws (opened_at w (d + 1) x) d (λ e k. other_holds w (d + 1) deep (opened_at w (d + 1) x) two e (λ f. omega arith) ∙ other_holds ws d has w one e (λ f. omega arith)) in
      rw (opened_holds w (d + 1) deep x, under_more (opened_at w (d + 1) x) d, here, rest) refl

  pub start_agrees : (x : ℕ) → on_start (asking b) (reading_of ws m s) 3 x ≡ next_of (start_for x ws s).0 (start_for x ws s).1 m
  unfolding reading_of start_for start_by
  start_agrees x = rw (under_long ws s.depth) (go (start_refusal s.depth (label_in ws s.depth) (stage_in ws s.depth) x) refl)
    where
      go : (e : ℕ) → start_refusal s.depth (label_in ws s.depth) (stage_in ws s.depth) x ≡ e →
          unless {P = List ℕ} {S = Carried} e (record {
            place = s.place + 3;
            top = record { label = x; stage = 0; held = no_states };
            under = record { label = label_in ws s.depth; stage = stage_after (attribute x) (stage_in ws s.depth); held = set_at ws s.depth } ∷ levels_under ws s.depth;
            state = carried_in m s.counts;
          })
          ≡ next_of (start_by e x ws s).0 (start_by e x ws s).1 m
      go zero h = ap on (sym (child_reading x (stage_in ws s.depth) (start_room s.depth (label_in ws s.depth) (stage_in ws s.depth) x ws 0 (sym h) refl has)))
      go (suc e) h = refl

  -- the reading after a text
  text_reading : (a : List ℕ) (k : ℕ) →
      reading_of (staged_at (joined_at ws s.depth a) s.depth 2) m (record { place = k; depth = s.depth; counts = s.counts })
      ≡ record {
        place = k;
        top = record { label = label_in ws s.depth; stage = 2; held = either (set_at ws s.depth) a };
        under = levels_under ws s.depth;
        state = carried_in m s.counts;
      }
  unfolding reading_of
  text_reading a k =
      let d : ℕ = s.depth in
      let w : List ℕ = joined_at ws d a in
      let one : OneLevel ws w d = joined_one ws d has a in
      let deep : HasLevel w d = has_still ws d has w d one in
      let two : OneLevel w (staged_at w d 2) d = staged_one w d deep 2 in
      let top : level_of (staged_at w d 2) d ≡ record { label = label_in ws d; stage = 2; held = either (set_at ws d) a }
      = staged_holds w d deep 2 ∙ ap (λ (y : Level (List ℕ)). record { label = y.label; stage = 2; held = y.held }) (joined_holds ws d has a) in
      let rest : levels_under (staged_at w d 2) d ≡ levels_under ws d
      = under_same ws (staged_at w d 2) d (λ e k. other_holds w d deep (staged_at w d 2) two e (λ f. omega arith) ∙ other_holds ws d has w one e (λ f. omega arith)) in
      rw (top, rest) refl

  module _ (k : ℕ) (body : List ℕ) (whole : k + 2 ≤ length body - s.place) where
    said : List ℕ
    said = part body (s.place + 2) k

    -- a text at the top level that the workspace holds
    after_text : Reading (List ℕ) Carried
    unfolding said
    after_text = record {
      place = s.place + (2 + k);
      top = record { label = label_in ws s.depth; stage = 2; held = either (set_at ws s.depth) (leaves_of b.states (b.reads said)) };
      under = levels_under ws s.depth;
      state = carried_in m s.counts;
    }

    on_text_lem : on_text (asking b) (reading_of ws m s) (2 + k) said ≡ unless (text_refusal s.depth (stage_in ws s.depth) (out_of_range b said)) after_text
    unfolding reading_of said after_text
    on_text_lem = rw (under_long ws s.depth) refl

    text_by : (e : ℕ) → unless e after_text ≡ next_of (text_step s k e) (held_at e b said ws s.depth) m
    unfolding said after_text held_at
    text_by zero =
        let at : s.place + (2 + k) ≡ s.place + (k + 2) = omega arith in
        ap on (sym (text_reading (leaves_of b.states (b.reads said)) (s.place + (2 + k)))) ∙ rw at refl
    text_by (suc e) = refl

    pub text_agrees : on_text (asking b) (reading_of ws m s) (2 + k) (part body (s.place + 2) k) ≡ next_of (text_for k body b ws s).0 (text_for k body b ws s).1 m
    unfolding said text_for held_by pick
    text_agrees = simp (le-ltb _ _ whole) (on_text_lem ∙ text_by (text_refusal s.depth (stage_in ws s.depth) (out_of_range b said)))

  module _ (inside : 0 < s.depth) where
    under_split : levels_under ws s.depth ≡ level_of ws (s.depth - 1) ∷ levels_under ws (s.depth - 1)
    under_split = let e : s.depth - 1 + 1 ≡ s.depth = omega arith in rw e at (under_more ws (s.depth - 1))

    -- the reading after an end
    shut_reading : (a : List ℕ) (c : Carried) →
        reading_of (joined_at ws (s.depth - 1) a) c.kept.memory (record { place = s.place + 3; depth = s.depth - 1; counts = counts_in c })
        ≡ record {
          place = s.place + 3;
          top = record { label = label_in ws (s.depth - 1); stage = stage_in ws (s.depth - 1); held = either (set_at ws (s.depth - 1)) a };
          under = levels_under ws (s.depth - 1);
          state = c;
        }
    unfolding reading_of
    shut_reading a c =
        let d : ℕ = s.depth - 1 in
        let low : HasLevel ws d = record { within = omega arith; room = has.room } in
        let one : OneLevel ws (joined_at ws d a) d = joined_one ws d low a in
        let rest : levels_under (joined_at ws d a) d ≡ levels_under ws d = under_same ws (joined_at ws d a) d (λ e k. other_holds ws d low (joined_at ws d a) one e (λ f. omega arith)) in
        rw (joined_holds ws d low a, rest) refl

    shut_agrees : on (shut_into (asking b) (reading_of ws m s) 3 (levels_under ws s.depth)) ≡ ending (ended s (close_of b.states ws s.depth (carried_in m s.counts)))
    unfolding reading_of close_of
    shut_agrees =
        let a : List ℕ × Carried = ask_next b.states (asks_at ws s.depth) (carried_in m s.counts) in
        rw under_split (ap on (sym (shut_reading a.0 a.1)))

  on_end_lem : (x : ℕ) → on_end (asking b) (reading_of ws m s) 3 x
      ≡ unless (end_refusal s.depth (label_in ws s.depth) x) (shut_into (asking b) (reading_of ws m s) 3 (levels_under ws s.depth))
  unfolding reading_of
  on_end_lem x = rw (under_long ws s.depth) refl

  pub end_agrees : (x : ℕ) → on_end (asking b) (reading_of ws m s) 3 x ≡ ending (end_for x b ws m s)
  unfolding end_for end_by
  end_agrees x = on_end_lem x ∙ go (end_refusal s.depth (label_in ws s.depth) x) refl
    where
      go : (e : ℕ) → end_refusal s.depth (label_in ws s.depth) x ≡ e →
          unless e (shut_into (asking b) (reading_of ws m s) 3 (levels_under ws s.depth)) ≡ ending (end_by e b ws m s)
      go zero h = shut_agrees (end_inside s.depth (label_in ws s.depth) x 0 (sym h) refl)
      go (suc e) h = refl
