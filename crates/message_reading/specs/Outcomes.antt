-- What a message that is read leaves: the rules' outcome, the counts' bounds, and the workspace past the levels as it was.
use Rattle.std.specs.Prelude.{◌≡◌, Result, Ok, Err, List, [], ℕ, zero, suc, ◌+◌, ◌-◌, ◌<◌, ◌≤◌, length, drop}
use Rattle.std.proofs.Math.Path.{refl, ap}
use Rattle.std.proofs.Common.{sym, ◌∙◌, ap₂, subst, arith, drop_of_length-le}
use Rattle.refusals.specs.declared.Refused.{Refused}
use Rattle.refusals.specs.Numbers.{number_of, refused_message, refused_place}
use Rattle.rules.specs.Book.{Meaning}
use Rattle.rules.specs.Message.{Outcome, place_of, outcome, events, begin, message, last_refusal}
use Rattle.rules.specs.Sets.{no_states}
use Rattle.rules.specs.Pass.{Carried, asking, pass_message}
use Rattle.rules.proofs.Message.Events.{events_ended}
use Rattle.rules.specs.Run.{workspace_width}
use Rattle.message_levels.specs.Level.{HasLevel, OneLevel, stage_in, set_at, level_of, opened_at}
use Rattle.message_levels.specs.Laws.{opened_one, opened_holds}
use Rattle.message_events.specs.declared.Reader.{Reader}
use Rattle.message_events.specs.Meant.{Stepped, goes_on, refused_at, meant}
use Rattle.message_events.specs.Step.{IndexedNext}
use Rattle.message_step.specs.Kinds.{step_of}
use Rattle.message_finish.specs.Finish.{finished, last_top}
use Rattle.memory_index.specs.Index.{Indexed}
use Rattle.message_reading.specs.declared.Ended.{Ended}
use Rattle.message_reading.specs.Agree.{levels_under, reading_of, under_long}
use Rattle.message_reading.specs.Turn.{Rose, Moved, moved_none, moved_more, Turn, step_turn}
use Rattle.book_plan.specs.declared.State.{State}
use Rattle.book_plan.specs.Plan.{meaning_in}
use Rattle.memory_ask.specs.declared.Counts.{Counts}
use Rattle.memory_ask.specs.Ask.{carried_in, count_most, CanAsk}

-- the outcome o is what r, the workspace w and the memory v say; the root's set stands in level 0 where the message is read
pub record Says (o : Outcome (List ℕ) Carried) (r : Ended) (w v : List ℕ) : Type 0 where
  pub refusal : refused_message r.read ≡ o.refusal
  pub place : refused_place r.read ≡ o.place
  pub carried : carried_in v r.counts ≡ o.state
  pub root : refused_message r.read ≡ 0 → set_at w 0 ≡ o.root

-- a message can be read: the index of the filled slots, and counts that every byte of the body might raise
pub record CanRead (index memory body : List ℕ) (c : Counts) : Type 0 where
  pub indexed : Indexed index memory c.filled
  pub asked_rises : c.asked + length body < count_most
  pub anew_rises : c.anew + length body < count_most

pub record ReadFrom (body : List ℕ) (b : Meaning) (ws m : List ℕ) (s : Reader) (r : Ended) (w v : List ℕ) : Type 0 where
  pub says : Says (events (asking b) (drop s.place body) 0 (reading_of ws m s)) r w v
  pub long : length w ≡ length ws
  pub past : drop workspace_width w ≡ drop workspace_width ws
  pub rose : Rose s.counts r.counts (length body - s.place)

pub record ReadMessage (body : List ℕ) (b : Meaning) (ws m : List ℕ) (c : Counts) (r : Ended) (w v : List ℕ) : Type 0 where
  pub says : Says (pass_message b body (carried_in m c)) r w v
  pub long : length w ≡ length ws
  pub room : workspace_width ≤ length w
  pub past : drop workspace_width w ≡ drop workspace_width ws
  pub rose : Rose c r.counts (length body)

-- ── the loop ──
pub record Going (body : List ℕ) (b : Meaning) (ws₀ m₀ : List ℕ) (s₀ : Reader) (ws m : List ℕ) (s : Reader) : Type 0 where
  pub moved : Moved body ws₀ s₀ ws s
  pub same : events (asking b) (drop s.place body) 0 (reading_of ws m s) ≡ events (asking b) (drop s₀.place body) 0 (reading_of ws₀ m₀ s₀)

module _ (body : List ℕ) (b : Meaning) (ws₀ m₀ : List ℕ) (s₀ : Reader) (ws m : List ℕ) (s : Reader) (g : Going body b ws₀ m₀ s₀ ws m s) where
  turned : s.place < length body → (y : Stepped) (w v : List ℕ) → (y, w, v) ≡ step_of body b ws m s → Turn body b ws m s g.moved.level y w v
  turned h y w v e =
      subst (λ (z : Stepped × List ℕ × List ℕ). Turn body b ws m s g.moved.level z.0 z.1 z.2) (sym e) (step_turn body b ws m s g.moved.level h)

  onward : s.place < length body → (y : Stepped) (w v : List ℕ) → (y, w, v) ≡ step_of body b ws m s → (t : Reader) → y ≡ goes_on t → Turn body b ws m s g.moved.level (goes_on t) w v
  onward h y w v e t d = subst (λ (z : Stepped). Turn body b ws m s g.moved.level z w v) d (turned h y w v e)

  going_next : s.place < length body → (y : Stepped) (w v : List ℕ) → (y, w, v) ≡ step_of body b ws m s → (t : Reader) → y ≡ goes_on t → Going body b ws₀ m₀ s₀ w v t
  going_next h y w v e t d =
      let z : Turn body b ws m s g.moved.level (goes_on t) w v = onward h y w v e t d in
      record { moved = moved_more body ws₀ s₀ ws s w t g.moved z.1; same = sym z.2 ∙ g.same }

  going_less : s.place < length body → (y : Stepped) (w v : List ℕ) → (y, w, v) ≡ step_of body b ws m s → (t : Reader) → y ≡ goes_on t → length body - t.place < length body - s.place
  going_less h y w v e t d = let z : Turn body b ws m s g.moved.level (goes_on t) w v = onward h y w v e t d in omega (arith, z.0, z.1.within)

  rose_all : Rose s₀.counts s.counts (length body - s₀.place)
  rose_all = record {
    asked = omega (arith, g.moved.rose.asked, g.moved.within, g.moved.from);
    anew = omega (arith, g.moved.rose.anew, g.moved.within, g.moved.from);
  }

  going_bad : s.place < length body → (y : Stepped) (w v : List ℕ) → (y, w, v) ≡ step_of body b ws m s → (x : Refused) → y ≡ refused_at (number_of x.refusal) x.place →
      ReadFrom body b ws₀ m₀ s₀ (record { read = Err x; counts = s.counts }) w v
  going_bad h y w v e x d =
      let n : ℕ = number_of x.refusal in
      let p : ℕ = x.place in
      let z : Turn body b ws m s g.moved.level (refused_at n p) w v = subst (λ (z : Stepped). Turn body b ws m s g.moved.level z w v) d (turned h y w v e) in
      let o : events (asking b) (drop s₀.place body) 0 (reading_of ws₀ m₀ s₀) ≡ outcome (reading_of ws m s) n = sym g.same ∙ z.4 in
      record {
        says = rw o (record {
          refusal = refl;
          place = z.1 ∙ placed n z.0;
          carried = rw z.3 carried;
          root = λ k. absurd (omega (arith, z.0));
        });
        long = ap length z.2 ∙ g.moved.long;
        past = ap (drop workspace_width) z.2 ∙ g.moved.past;
        rose = rose_all;
      }
    where
      placed : (n : ℕ) → 0 < n → s.place ≡ place_of n (reading_of ws m s).place
      placed zero k = absurd (omega arith)
      placed (suc n) k = unfold reading_of in refl

      carried : carried_in m s.counts ≡ (reading_of ws m s).state
      carried = unfold reading_of in refl

  -- after the last event
  module _ (done : length body ≤ s.place) where
    full : s.place ≡ length body
    full = omega (arith, g.moved.within)

    ends : events (asking b) (drop s₀.place body) 0 (reading_of ws₀ m₀ s₀) ≡ outcome (reading_of ws m s) (last_refusal s.depth (stage_in ws s.depth))
    ends =
        let d : drop s.place body ≡ [] = drop_of_length-le body done in
        let n : length (reading_of ws m s).under ≡ s.depth = depth_is in
        let t : (reading_of ws m s).top.stage ≡ stage_in ws s.depth = stage_is in
        sym g.same ∙ ap (λ (l : List ℕ). events (asking b) l 0 (reading_of ws m s)) d ∙ events_ended (asking b) (reading_of ws m s)
        ∙ ap₂ (λ (i j : ℕ). outcome (reading_of ws m s) (last_refusal i j)) n t
      where
        depth_is : length (reading_of ws m s).under ≡ s.depth
        depth_is = unfold reading_of in under_long ws s.depth

        stage_is : (reading_of ws m s).top.stage ≡ stage_in ws s.depth
        stage_is = unfold reading_of in refl

    -- level 0 is the root's
    root_held : s.depth ≡ 0 → set_at ws 0 ≡ (reading_of ws m s).top.held
    unfolding reading_of
    root_held e = rw e

    going_end : (r : Result (Unit {0}) Refused) → (refused_message r, refused_place r) ≡ finished s (length body) ws →
        ReadFrom body b ws₀ m₀ s₀ (record { read = r; counts = s.counts }) ws m
    unfolding finished reading_of
    going_end r e =
        let last : ℕ = last_refusal s.depth (stage_in ws s.depth) in
        let due : refused_message r ≡ last = ap (λ (y : ℕ × ℕ). y.0) e in
        record {
          says = rw ends (record {
            refusal = due;
            place = ap (λ (y : ℕ × ℕ). y.1) e ∙ ap (place_of last) (sym full);
            carried = refl;
            root = λ k. root_held (last_top s.depth (stage_in ws s.depth) (sym due ∙ k));
          });
          long = g.moved.long;
          past = g.moved.past;
          rose = rose_all;
        }

-- ── the whole message: level 0 opened, and the events from place 0 on ──
pub read_whole : (body : List ℕ) (b : Meaning) (ws u m w v : List ℕ) (c : Counts) (r : Ended) → workspace_width ≤ length ws → u ≡ opened_at ws 0 0 →
    ReadFrom body b u m (record { place = 0; depth = 0; counts = c }) r w v → ReadMessage body b ws m c r w v
unfolding pass_message message
read_whole body b ws u m w v c r h e f =
    let has : HasLevel ws 0 = record { within = omega arith; room = h } in
    let one : OneLevel ws u 0 = rw e (opened_one ws 0 has 0) in
    let same : length w ≡ length ws = f.long ∙ one.long in
    record {
      says = rw (opening (rw e (opened_holds ws 0 has 0))) at f.says;
      long = same;
      room = omega (arith, same);
      past = f.past ∙ one.past;
      rose = record { asked = omega (arith, f.rose.asked); anew = omega (arith, f.rose.anew) };
    }
  where
    opening : level_of u 0 ≡ record { label = 0; stage = 0; held = no_states } → reading_of u m (record { place = 0; depth = 0; counts = c }) ≡ begin (asking b) (carried_in m c)
    opening t = unfold reading_of levels_under in (rw t refl)

-- ── the index ──
pub indexed_next : (x m : List ℕ) (filled : ℕ) (y : Stepped) (t : Reader) → IndexedNext x m filled y → y ≡ goes_on t → Indexed x m t.counts.filled
indexed_next x m filled y t h e = subst (λ (z : Stepped). IndexedNext x m filled z) e h

pub indexed_bad : (x m : List ℕ) (filled : ℕ) (y : Result Reader Refused) (r : Refused) → IndexedNext x m filled (meant y) → y ≡ Err r → Indexed x m filled
indexed_bad x m filled y r h e = subst (λ (z : Stepped). IndexedNext x m filled z) (ap meant e) h

-- what the loop keeps: the reading, the index of the memory, and the lengths of what is lent
pub record ReadingOn (body : List ℕ) (plan : List State) (x₀ m₀ ws₀ : List ℕ) (s₀ : Reader) (x m ws : List ℕ) (s : Reader) : Type 0 where
  pub can : CanRead x₀ m₀ body s₀.counts
  pub going : Going body (meaning_in plan) ws₀ m₀ s₀ ws m s
  pub indexed : Indexed x m s.counts.filled
  pub longm : length m ≡ length m₀

module _ (body : List ℕ) (plan : List State) (x₀ m₀ ws₀ : List ℕ) (s₀ : Reader) where
  pub reading_none : CanRead x₀ m₀ body s₀.counts → s₀.place ≤ length body → HasLevel ws₀ s₀.depth → ReadingOn body plan x₀ m₀ ws₀ s₀ x₀ m₀ ws₀ s₀
  reading_none can h k = record { can = can; going = record { moved = moved_none body ws₀ s₀ h k; same = refl }; indexed = can.indexed; longm = refl }

  module _ (x m ws : List ℕ) (s : Reader) (g : ReadingOn body plan x₀ m₀ ws₀ s₀ x m ws s) where
    pub reading_level : HasLevel ws s.depth
    reading_level = g.going.moved.level

    pub reading_asks : CanAsk x m s.counts
    reading_asks = record {
      indexed = g.indexed;
      asked = omega (arith, g.going.moved.rose.asked, g.going.moved.within, g.can.asked_rises);
      anew = omega (arith, g.going.moved.rose.anew, g.going.moved.within, g.can.anew_rises);
    }

    module _ (inside : s.place < length body) (y : Result Reader Refused) (w v u : List ℕ) (told : (meant y, w, v) ≡ step_of body (meaning_in plan) ws m s)
        (index : IndexedNext u v s.counts.filled (meant y)) where
      pub reading_next : (t : Reader) → y ≡ Ok t → length v ≡ length m → ReadingOn body plan x₀ m₀ ws₀ s₀ u v w t
      reading_next t e c = record {
        can = g.can;
        going = going_next body (meaning_in plan) ws₀ m₀ s₀ ws m s g.going inside (meant y) w v told t (ap meant e);
        indexed = indexed_next u v s.counts.filled (meant y) t index (ap meant e);
        longm = c ∙ g.longm;
      }

      pub reading_bad : (r : Refused) → y ≡ Err r → ReadFrom body (meaning_in plan) ws₀ m₀ s₀ (record { read = Err r; counts = s.counts }) w v
      reading_bad r e = going_bad body (meaning_in plan) ws₀ m₀ s₀ ws m s g.going inside (meant y) w v told r (ap meant e)

    pub reading_less : s.place < length body → (y : Result Reader Refused) (w v : List ℕ) → (meant y, w, v) ≡ step_of body (meaning_in plan) ws m s → (t : Reader) → y ≡ Ok t →
        length body - t.place < length body - s.place
    reading_less h y w v e t d = going_less body (meaning_in plan) ws₀ m₀ s₀ ws m s g.going h (meant y) w v e t (ap meant d)

    pub reading_end : length body ≤ s.place → (r : Result (Unit {0}) Refused) → (refused_message r, refused_place r) ≡ finished s (length body) ws →
        ReadFrom body (meaning_in plan) ws₀ m₀ s₀ (record { read = r; counts = s.counts }) ws m
    reading_end h r e = going_end body (meaning_in plan) ws₀ m₀ s₀ ws m s g.going h r e
