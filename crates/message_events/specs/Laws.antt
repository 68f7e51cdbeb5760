-- A law for each way out of the events' code.
use Rattle.std.specs.Prelude.{◌≡◌, length, get_or, take, drop}
use Rattle.std.proofs.Math.Path.{refl, ap}
use Rattle.std.proofs.Common.{◌∙◌, lt-ltb, le-ltb}
use mathlib.Core.List.{List}
use Prim.Native.Nat.{ℕ, zero, suc, ◌+◌, ◌-◌, ◌<◌, ◌≤◌}
use Rattle.std.proofs.Math.Nat.{add-sub_cancel_left}
use Rattle.lists.specs.Choice.{pick}
use Rattle.lists.specs.Parts.{part}
use Rattle.rules.specs.Bytes.{le2}
use Rattle.rules.specs.Book.{Meaning}
use Rattle.rules.specs.Message.{start_refusal, end_refusal}
use Rattle.refusals.specs.Laws.{number_positive}
use Rattle.message_levels.specs.Level.{label_in, stage_in}
use Rattle.message_starts.specs.Starts.{child_opened, start_room}
use Rattle.message_texts.specs.Texts.{held_by}
use Rattle.message_ends.specs.Ends.{close_of, end_inside}
use Rattle.memory_ask.specs.declared.Counts.{Counts}
use Rattle.memory_ask.specs.Ask.{carried_in}
use Rattle.message_events.specs.declared.Reader.{Reader}
use Rattle.message_events.specs.Meant.{Stepped, goes_on, refused_at}
use Rattle.message_events.specs.Step.{start_by, start_for, start_of, text_step, text_for, text_of, ended, end_by, end_for, end_of}

-- ── start ──
module _ (body ws : List ℕ) (s : Reader) where
  pub start_short : length body - s.place < 3 → (refused_at 22 s.place, ws) ≡ start_of body ws s
  unfolding start_of pick
  start_short h = simp (lt-ltb _ _ h)

  module _ (x e label stage : ℕ) (room : 3 ≤ length body - s.place) (told : e ≡ start_refusal s.depth label stage x)
      (read : x ≡ le2 body (s.place + 1)) (named : label ≡ label_in ws s.depth) (there : stage ≡ stage_in ws s.depth) where
    start_by_lem : start_by e x ws s ≡ start_of body ws s
    unfolding start_of start_for pick
    start_by_lem = simp (le-ltb _ _ room) (rw (told, named, there, read))

    pub start_refused : (e ≡ 0 → ⊥) → (refused_at e s.place, ws) ≡ start_of body ws s
    unfolding start_by
    start_refused h = go e h ∙ start_by_lem
      where
        go : (n : ℕ) → (n ≡ 0 → ⊥) → (refused_at n s.place, ws) ≡ start_by n x ws s
        go zero k = absurd (k refl)
        go (suc n) k = refl

    pub start_next : (w : List ℕ) → e ≡ 0 → w ≡ child_opened ws s.depth stage x →
        (goes_on (record { place = s.place + 3; depth = s.depth + 1; counts = s.counts }), w) ≡ start_of body ws s
    unfolding start_by
    start_next w z h = rw (h, there) (rw z at start_by_lem)

pub ruleset start_laws = (start_short, start_refused, start_next, start_room, number_positive)

-- ── text ──
module _ (body : List ℕ) (b : Meaning) (ws : List ℕ) (s : Reader) where
  pub text_short : length body - s.place < 2 → (refused_at 22 s.place, ws) ≡ text_of body b ws s
  unfolding text_of pick
  text_short h = simp (lt-ltb _ _ h)

  pub text_sized : (k : ℕ) (r : Stepped) (w : List ℕ) → 2 ≤ length body - s.place → k ≡ get_or body (s.place + 1) 0 → (r, w) ≡ text_for k body b ws s → (r, w) ≡ text_of body b ws s
  unfolding text_of pick
  text_sized k r w room read e = simp (le-ltb _ _ room) (rw read at e)

  module _ (k : ℕ) where
    pub text_cut : length body - s.place < k + 2 → (refused_at 22 s.place, ws) ≡ text_for k body b ws s
    unfolding text_for pick
    text_cut h = simp (lt-ltb _ _ h)

    module _ (e : ℕ) (w : List ℕ) (whole : k + 2 ≤ length body - s.place)
        (held : (e, w) ≡ held_by b (take (s.place + 2 + k - (s.place + 2)) (drop (s.place + 2) body)) ws s.depth) where
      text_held : (text_step s k e, w) ≡ text_for k body b ws s
      unfolding text_for pick part
      text_held =
          let same : (e, w) ≡ held_by b (take k (drop (s.place + 2) body)) ws s.depth = rw (add-sub_cancel_left (s.place + 2) k) at held in
          simp (le-ltb _ _ whole) (ap (λ (y : ℕ × List ℕ). (text_step s k y.0, y.1)) same)

      pub text_refused : (e ≡ 0 → ⊥) → (refused_at e s.place, w) ≡ text_for k body b ws s
      text_refused h = ap (λ (y : Stepped). (y, w)) (go e h) ∙ text_held
        where
          go : (n : ℕ) → (n ≡ 0 → ⊥) → refused_at n s.place ≡ text_step s k n
          go zero h = absurd (h refl)
          go (suc n) h = refl

      pub text_next : e ≡ 0 →
          (goes_on (record { place = s.place + (k + 2); depth = s.depth; counts = s.counts }), w) ≡ text_for k body b ws s
      text_next z = rw z at text_held

pub ruleset text_laws = (text_cut, text_refused, text_next, number_positive)

-- ── end ──
module _ (body : List ℕ) (b : Meaning) (ws m : List ℕ) (s : Reader) where
  pub end_short : length body - s.place < 3 → (refused_at 22 s.place, ws, m) ≡ end_of body b ws m s
  unfolding end_of pick
  end_short h = simp (lt-ltb _ _ h)

  module _ (x e : ℕ) (room : 3 ≤ length body - s.place) (told : e ≡ end_refusal s.depth (label_in ws s.depth) x) (read : x ≡ le2 body (s.place + 1)) where
    end_by_lem : end_by e b ws m s ≡ end_of body b ws m s
    unfolding end_of end_for pick
    end_by_lem = simp (le-ltb _ _ room) (rw (told, read))

    pub end_refused : (e ≡ 0 → ⊥) → (refused_at e s.place, ws, m) ≡ end_of body b ws m s
    unfolding end_by
    end_refused h = go e h ∙ end_by_lem
      where
        go : (n : ℕ) → (n ≡ 0 → ⊥) → (refused_at n s.place, ws, m) ≡ end_by n b ws m s
        go zero k = absurd (k refl)
        go (suc n) k = refl

    pub end_next : (r : Counts) (w v : List ℕ) → e ≡ 0 → (w, carried_in v r) ≡ close_of b.states ws s.depth (carried_in m s.counts) →
        (goes_on (record { place = s.place + 3; depth = s.depth - 1; counts = r }), w, v) ≡ end_of body b ws m s
    unfolding end_by
    end_next r w v z g = ap (ended s) g ∙ rw z at end_by_lem

pub ruleset end_laws = (end_short, end_refused, end_next, end_inside, number_positive)
