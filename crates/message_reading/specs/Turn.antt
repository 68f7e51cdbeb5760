-- One turn of the loop that reads a message: an event leads on, or is refused, as the rules say.
use Rattle.std.specs.Prelude.{◌≡◌, eqb}
use Rattle.std.proofs.Math.Path.{refl, ap, subst}
use Rattle.std.proofs.Common.{sym, ◌∙◌, drop-drop}
use mathlib.Core.List.{List, ◌∷◌}
use Prim.Native.Nat.{ℕ, zero, suc, ◌+◌, ◌-◌, ◌<◌, ◌≤◌}
use native.Mathlib.Omega.{arith}
use Rattle.std.proofs.Math.Decide.{dec_lt}
use Rattle.std.proofs.Math.ListN.{length, get_or, drop}
use Rattle.std.proofs.Math.Seq.{drop-cons}
use borrow.Author.Tests.{ltb-true, ltb-false, eqb-true, eqb-false}
use Rattle.lists.specs.Parts.{part}
use Rattle.lists.specs.Choice.Laws.{pick_cases}
use Rattle.rules.specs.Book.{Meaning, out_of_range}
use Rattle.rules.specs.Bytes.{le2}
use Rattle.rules.specs.State.{attribute}
use Rattle.rules.specs.Message.{Event, start, end, text, bad, got, labelled, texted, first_event, start_refusal, text_refusal, end_refusal, stage_after, outcome, on_event, events}
use Rattle.rules.specs.Sets.{leaves_of, Question}
use Rattle.rules.specs.Memory.{Kept, ask}
use Rattle.rules.specs.Pass.{asking}
use Rattle.rules.proofs.Message.Events.{events_skip, events_broken, event_refused, first_kind}
use Rattle.rules.specs.Run.{workspace_width}
use Rattle.rules.proofs.Run.Laws.{accepted_event, refused_event}
use Rattle.message_levels.specs.Level.{HasLevel, OneLevel, label_in, stage_in, asks_at, opened_at, staged_at, joined_at}
use Rattle.message_levels.specs.Laws.{opened_one, staged_one, joined_one, has_still}
use Rattle.message_starts.specs.Starts.{child_opened, start_room}
use Rattle.message_texts.specs.Texts.{held_at, held_by}
use Rattle.message_ends.specs.Ends.{close_of, end_inside}
use Rattle.memory_ask.specs.declared.Counts.{Counts}
use Rattle.memory_ask.specs.Ask.{carried_in}
use Rattle.memory_ask.specs.Laws.{ask_anew}
use Rattle.message_events.specs.declared.Reader.{Reader}
use Rattle.message_events.specs.Meant.{Stepped, goes_on, refused_at}
use Rattle.message_events.specs.Step.{past, start_by, start_for, start_of, text_step, text_for, text_of, end_by, end_for, end_of}
use Rattle.message_events.specs.Laws.{text_cut}
use Rattle.message_step.specs.Kinds.{beside, step_of}
use Rattle.message_reading.specs.Agree.{reading_of, next_of, labelled_there, labelled_cut, texted_none, texted_there, texted_cut, start_agrees, text_agrees, end_agrees}

-- counts that rose by n at most
pub record Rose (c r : Counts) (n : ℕ) : Type 0 where
  pub asked : r.asked ≤ c.asked + n
  pub anew : r.anew ≤ c.anew + n

-- what accepted events leave of the reader's state and the workspace: no count rises faster than the place
pub record Moved (body ws : List ℕ) (s : Reader) (w : List ℕ) (t : Reader) : Type 0 where
  pub from : s.place ≤ t.place
  pub within : t.place ≤ length body
  pub level : HasLevel w t.depth
  pub long : length w ≡ length ws
  pub past : drop workspace_width w ≡ drop workspace_width ws
  pub rose : Rose s.counts t.counts (t.place - s.place)

pub moved_none : (body ws : List ℕ) (s : Reader) → s.place ≤ length body → HasLevel ws s.depth → Moved body ws s ws s
moved_none body ws s h k =
    record { from = omega arith; within = h; level = k; long = refl; past = refl; rose = record { asked = omega arith; anew = omega arith } }

pub moved_more : (body ws : List ℕ) (s : Reader) (w : List ℕ) (t : Reader) (u : List ℕ) (r : Reader) → Moved body ws s w t → Moved body w t u r → Moved body ws s u r
moved_more body ws s w t u r f g = record {
  from = omega (arith, f.from, g.from);
  within = g.within;
  level = g.level;
  long = g.long ∙ f.long;
  past = g.past ∙ f.past;
  rose = record {
    asked = omega (arith, f.from, g.from, f.rose.asked, g.rose.asked);
    anew = omega (arith, f.from, g.from, f.rose.anew, g.rose.anew);
  };
}

-- an event of this size is accepted, or refused where it stands
abbrev pub Sound : List ℕ → List ℕ → List ℕ → Reader → ℕ → Stepped → List ℕ → List ℕ → Type 0
Sound body ws m s size (goes_on t) w v = (t.place ≡ s.place + size) × Moved body ws s w t
Sound body ws m s size (refused_at e p) w v = (p ≡ s.place) × (w ≡ ws) × (v ≡ m)

-- ── each event ──
module _ (body ws m : List ℕ) (s : Reader) (has : HasLevel ws s.depth) where
  abbrev Ok : ℕ → Stepped × List ℕ → Type 0
  Ok size y = Sound body ws m s size y.0 y.1 m

  stays : (e size : ℕ) → Ok size (refused_at e s.place, ws)
  stays e size = (refl, refl, refl)

  start_by_lem : (x e : ℕ) → 3 ≤ length body - s.place → start_refusal s.depth (label_in ws s.depth) (stage_in ws s.depth) x ≡ e → Ok 3 (start_by e x ws s)
  unfolding start_by child_opened
  start_by_lem x zero whole h =
      let d : ℕ = s.depth in
      let more : HasLevel ws (d + 1) = start_room d (label_in ws d) (stage_in ws d) x ws 0 (sym h) refl has in
      let w : List ℕ = staged_at ws d (stage_after (attribute x) (stage_in ws d)) in
      let one : OneLevel ws w d = staged_one ws d has (stage_after (attribute x) (stage_in ws d)) in
      let deep : HasLevel w (d + 1) = has_still ws (d + 1) more w d one in
      let two : OneLevel w (opened_at w (d + 1) x) (d + 1) = opened_one w (d + 1) deep x in (
        refl,
        record {
          from = omega arith;
          within = omega arith;
          level = has_still w (d + 1) deep (opened_at w (d + 1) x) (d + 1) two;
          long = two.long ∙ one.long;
          past = two.past ∙ one.past;
          rose = record { asked = omega arith; anew = omega arith };
        },
      )
  start_by_lem x (suc e) whole h = stays (suc e) 3

  start_sound : (x : ℕ) → 3 ≤ length body - s.place → Ok 3 (start_for x ws s)
  unfolding start_for
  start_sound x whole = start_by_lem x (start_refusal s.depth (label_in ws s.depth) (stage_in ws s.depth) x) whole refl

  text_by : (b : Meaning) (k e : ℕ) (said : List ℕ) → k + 2 ≤ length body - s.place → Ok (2 + k) (text_step s k e, held_at e b said ws s.depth)
  unfolding held_at
  text_by b k zero said whole =
      let d : ℕ = s.depth in
      let w : List ℕ = joined_at ws d (leaves_of b.states (b.reads said)) in
      let one : OneLevel ws w d = joined_one ws d has (leaves_of b.states (b.reads said)) in
      let deep : HasLevel w d = has_still ws d has w d one in
      let two : OneLevel w (staged_at w d 2) d = staged_one w d deep 2 in (
        omega arith,
        record {
          from = omega arith;
          within = omega arith;
          level = has_still w d deep (staged_at w d 2) d two;
          long = two.long ∙ one.long;
          past = two.past ∙ one.past;
          rose = record { asked = omega arith; anew = omega arith };
        },
      )
  text_by b k (suc e) said whole = stays (suc e) (2 + k)

  text_sound : (b : Meaning) (k : ℕ) → k + 2 ≤ length body - s.place → Ok (2 + k) (text_for k body b ws s)
  unfolding text_for held_by
  text_sound b k whole =
      let said : List ℕ = part body (s.place + 2) k in
      pick_cases (Ok (2 + k)) (past body s (k + 2)) (λ e. stays 22 (2 + k))
      (λ e. text_by b k (text_refusal s.depth (stage_in ws s.depth) (out_of_range b said)) said whole)

module _ (body : List ℕ) (b : Meaning) (ws m : List ℕ) (s : Reader) (has : HasLevel ws s.depth) where
  abbrev Fine : ℕ → Stepped × List ℕ × List ℕ → Type 0
  Fine size y = Sound body ws m s size y.0 y.1 y.2

  end_by_lem : (x e : ℕ) → 3 ≤ length body - s.place → end_refusal s.depth (label_in ws s.depth) x ≡ e → Fine 3 (end_by e b ws m s)
  unfolding end_by close_of
  end_by_lem x zero whole h =
      let q : Question = asks_at ws s.depth in
      let k : Kept = (carried_in m s.counts).kept in
      let inside : 0 < s.depth = end_inside s.depth (label_in ws s.depth) x 0 (sym h) refl in
      let d : ℕ = s.depth - 1 in
      let a : List ℕ = (ask b.states q k).answer in
      let low : HasLevel ws d = record { within = omega (arith, has.within); room = has.room } in
      let one : OneLevel ws (joined_at ws d a) d = joined_one ws d low a in (
        refl,
        record {
          from = omega arith;
          within = omega arith;
          level = has_still ws d low (joined_at ws d a) d one;
          long = one.long;
          past = one.past;
          rose = record { asked = omega arith; anew = omega (arith, ask_anew b.states q k) };
        },
      )
  end_by_lem x (suc e) whole h = (refl, refl, refl)

  end_sound : (x : ℕ) → 3 ≤ length body - s.place → Fine 3 (end_for x b ws m s)
  unfolding end_for
  end_sound x whole = end_by_lem x (end_refusal s.depth (label_in ws s.depth) x) whole refl

  -- ── the turn ──
  abbrev pub Turn : Stepped → List ℕ → List ℕ → Type 0
  Turn (goes_on t) w v =
      (s.place < t.place) × Moved body ws s w t
      × (events (asking b) (drop s.place body) 0 (reading_of ws m s) ≡ events (asking b) (drop t.place body) 0 (reading_of w v t))
  Turn (refused_at e p) w v =
      (0 < e) × (p ≡ s.place) × (w ≡ ws) × (v ≡ m) × (events (asking b) (drop s.place body) 0 (reading_of ws m s) ≡ outcome (reading_of ws m s) e)

  module _ (inside : s.place < length body) where
    kind : ℕ
    kind = get_or body s.place 0

    rest : List ℕ
    rest = drop (suc s.place) body

    split : drop s.place body ≡ kind ∷ rest
    unfolding kind rest
    split = drop-cons body s.place 0 inside

    -- no whole event is there
    turn_bad : (e : ℕ) → 0 < e → first_event kind rest ≡ bad e → Turn (refused_at e s.place) ws m
    turn_bad e z f = (z, refl, refl, refl, ap (λ l. events (asking b) l 0 (reading_of ws m s)) split ∙ events_broken (asking b) kind rest (reading_of ws m s) e f)

    -- an event is there
    turn_got : (ev : Event) (size : ℕ) → 0 < size → first_event kind rest ≡ got ev size → (y : Stepped) (w v : List ℕ) →
        on_event (asking b) (reading_of ws m s) size ev ≡ next_of y w v → Sound body ws m s size y w v → Turn y w v
    unfolding rest
    turn_got ev size z f (goes_on t) w v g h =
        let at : suc s.place + (size - 1) ≡ t.place = omega (arith, h.0) in (
          omega (arith, h.0),
          h.1,
          ap (λ l. events (asking b) l 0 (reading_of ws m s)) split ∙ accepted_event (asking b) kind rest (reading_of ws m s) ev size (reading_of w v t) f g
              ∙ events_skip (asking b) (size - 1) rest (reading_of w v t)
              ∙ ap (λ l. events (asking b) l 0 (reading_of w v t)) (drop-drop (size - 1) (suc s.place) body ∙ ap (λ (k : ℕ). drop k body) at),
        )
    turn_got ev size z f (refused_at e p) w v g h = (
      event_refused (asking b) ev size e (reading_of ws m s) g,
      h.0,
      h.1,
      h.2,
      ap (λ l. events (asking b) l 0 (reading_of ws m s)) split ∙ refused_event (asking b) kind rest (reading_of ws m s) ev size e f g,
    )

    abbrev Turned : Stepped × List ℕ × List ℕ → Type 0
    Turned y = Turn y.0 y.1 y.2

    start_turn : kind ≡ 1 → Turned (beside (start_of body ws s) m)
    unfolding start_of first_event rest
    start_turn e =
        let first : first_event kind rest ≡ labelled start rest = rw e refl in
        pick_cases (λ (y : Stepped × List ℕ). Turned (beside y m)) (past body s 3)
        (λ f. turn_bad 22 (omega arith) (first ∙ labelled_cut start body s.place (ltb-true _ _ f)))
        (λ f.
        let whole : 3 ≤ length body - s.place = ltb-false _ _ f in
        let x : ℕ = le2 body (s.place + 1) in
        turn_got (start x) 3 (omega arith) (first ∙ labelled_there start body s.place whole) (start_for x ws s).0 (start_for x ws s).1 m
        (start_agrees b ws m s has x) (start_sound body ws m s has x whole))

    text_turn : kind ≡ 2 → Turned (beside (text_of body b ws s) m)
    unfolding text_of first_event rest
    text_turn e =
        let first : first_event kind rest ≡ texted rest = rw e refl in
        let k : ℕ = get_or body (s.place + 1) 0 in
        pick_cases (λ (y : Stepped × List ℕ). Turned (beside y m)) (past body s 2)
        (λ f. turn_bad 22 (omega arith) (first ∙ texted_none body s.place (ltb-true _ _ f)))
        (λ f.
        let room2 : 2 ≤ length body - s.place = ltb-false _ _ f in
        elim (dec_lt (length body - s.place) (k + 2)) [
          | yes h ↦
              let cut : (refused_at 22 s.place, ws) ≡ text_for k body b ws s = text_cut body b ws s k h in
              let done : Turned (beside (refused_at 22 s.place, ws) m) = turn_bad 22 (omega arith) (first ∙ texted_cut body s.place room2 h) in
              subst (λ (y : Stepped × List ℕ). Turned (beside y m)) cut done
          | no h ↦
              let whole : k + 2 ≤ length body - s.place = omega arith in
              turn_got (text (part body (s.place + 2) k)) (2 + k) (omega arith) (first ∙ texted_there body s.place room2 whole) (text_for k body b ws s).0 (text_for k body b ws s).1 m
              (text_agrees b ws m s has k body whole) (text_sound body ws m s has b k whole)
        ])

    end_turn : kind ≡ 3 → Turned (end_of body b ws m s)
    unfolding end_of first_event rest
    end_turn e =
        let first : first_event kind rest ≡ labelled end rest = rw e refl in
        pick_cases Turned (past body s 3)
        (λ f. turn_bad 22 (omega arith) (first ∙ labelled_cut end body s.place (ltb-true _ _ f)))
        (λ f.
        let whole : 3 ≤ length body - s.place = ltb-false _ _ f in
        let x : ℕ = le2 body (s.place + 1) in
        let y : Stepped × List ℕ × List ℕ = end_for x b ws m s in
        turn_got (end x) 3 (omega arith) (first ∙ labelled_there end body s.place whole) y.0 y.1 y.2 (end_agrees b ws m s has x) (end_sound x whole))

    -- whatever the event is
    pub step_turn : Turned (step_of body b ws m s)
    unfolding step_of kind
    step_turn =
        pick_cases Turned (eqb kind 1) (λ e. start_turn (eqb-true kind 1 e))
        (λ e. pick_cases Turned (eqb kind 2) (λ f. text_turn (eqb-true kind 2 f))
        (λ f. pick_cases Turned (eqb kind 3) (λ g. end_turn (eqb-true kind 3 g))
        (λ g. turn_bad 21 (omega arith) (first_kind kind rest (eqb-false kind 1 e) (eqb-false kind 2 f) (eqb-false kind 3 g)))))
