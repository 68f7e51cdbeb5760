-- Where a message is refused: behind the events that begin some message, where no message goes on with the event that follows them.
use Rattle.std.proofs.Math.Path.{◌≡◌, refl, ap}
use Rattle.std.proofs.Common.{sym, ◌∙◌, length-append}
use mathlib.Core.List.{List, [], ◌∷◌, ◌++◌, append_assoc, append-nil}
use Rattle.std.specs.Prelude.{◌↔◌, take}
use Rattle.std.proofs.Math.Option.{none}
use Prim.Native.Nat.{ℕ, zero, suc, ◌<◌}
use Rattle.std.proofs.Math.Nat.{add-zero, zero-add}
use native.Mathlib.Omega.{arith}
use Rattle.std.proofs.Math.ListN.{length}
use Rattle.std.proofs.Math.Seq.{take-append_seam}
use Rattle.lists.specs.Choice.{pick}
use Rattle.rules.specs.Book.{Meaning}
use Rattle.rules.specs.Tree.{childless, tree, Content, Node}
use Rattle.rules.specs.Message.{Event, bad, first_event, Next, refused, on, begin, outcome, events, on_event, message}
use Rattle.rules.specs.Asked.{growing, read_tree}
use Rattle.rules.specs.Written.{written, has_element, shaped, one_element, message_shaped, written_event, written_events, AreBytes, IsMessage, Begins, Stuck}
use Rattle.rules.proofs.Message.Events.{size_of, Follows, events_follow, events_on, events_barred, events_broken, event_refused, first_kind}
use Rattle.rules.proofs.Written.Laws.{Standing}
use Rattle.rules.proofs.Message.Open.{Sound, event_keeps, follow_keeps, begin_sound}
use Rattle.rules.proofs.Written.Read.{Run, run}
use Rattle.rules.proofs.Written.Beginnings.{through, short, message_read, sound_begins, after_bytes, event_bytes, event_long, passed_or_short, run_message, run_place}

-- B: what the book means to the message
module _ (B : Meaning) where
  module _ (evs : List Event) (rest : List ℕ) (h : AreBytes (written_events evs ++ rest)) where
    -- the events are passed, and then reading goes on
    reads_on : (last : Standing) → Follows (growing B) (begin (growing B) []) evs last → (z : List ℕ) → read_tree B (written_events evs ++ z) ≡ events (growing B) z 0 last
    unfolding read_tree message
    reads_on last f z = events_follow (growing B) evs z (begin (growing B) []) last f

    sound_last : (last : Standing) → Follows (growing B) (begin (growing B) []) evs last → Sound B last (written_events evs)
    sound_last last f = follow_keeps B evs (begin (growing B) []) last [] (begin_sound B) f

    stuck : (last : Standing) → Follows (growing B) (begin (growing B) []) evs last → 0 < ((read_tree B) (written_events evs ++ rest)).refusal →
        (read_tree B (written_events evs ++ rest)).place ≡ length (written_events evs) → Stuck B evs rest
    stuck last f n p ev z w b = go (on_event (growing B) last (size_of ev) ev) refl
      where
        a : AreBytes (written_event ev ++ z)
        a = rw w at (after_bytes (written_events evs) rest h)

        go : (q : Next Content (List Node)) → on_event (growing B) last (size_of ev) ev ≡ q → ⊥
        go (refused e) q =
            let o : read_tree B ((written_events evs ++ written_event ev) ++ b.more) ≡ outcome last e
            = ap (read_tree B) (append_assoc (written_events evs) (written_event ev) b.more) ∙ reads_on last f (written_event ev ++ b.more) ∙ events_barred (growing B) ev b.more last e q in
            let m : 0 < e = event_refused (growing B) ev (size_of ev) e last q in
            let i : e ≡ 0 = ap (λ x. x.refusal) (sym o) ∙ message_read B _ b.whole in
            omega arith
        go (on r) q =
            let o : read_tree B (written_events evs ++ rest) ≡ events (growing B) z 0 r
            = reads_on last f rest ∙ ap (λ y. events (growing B) y 0 last) w ∙ events_on (growing B) ev z last r q in
            let s : Sound B r (written_events evs ++ written_event ev) = event_keeps B ev last r (written_events evs) (sound_last last f) (event_bytes ev z a) q in
            let c : Run B z r (written_events evs ++ written_event ev) = run B z r (written_events evs ++ written_event ev) s (after_bytes (written_event ev) z a) in
            let l = run_place B z r (written_events evs ++ written_event ev) c (rw o at n) in
            let i : (events (growing B) z 0 r).place ≡ length (written_events evs) = rw o at p in
            let j : 0 < size_of ev = event_long ev in
            omega (arith, l, length-append (written_events evs) (written_event ev))

    refused_known : 0 < ((read_tree B) (written_events evs ++ rest)).refusal → (read_tree B (written_events evs ++ rest)).place ≡ length (written_events evs) →
        Begins B (written_events evs) × (IsMessage B (written_events evs ++ rest) → ⊥) × Stuck B evs rest
    unfolding read_tree message
    refused_known n p = elim (passed_or_short B evs rest (begin (growing B) []) [] (begin_sound B) h) [
      | through last f ↦
          (sound_begins B last (written_events evs) (sound_last last f), (λ m. let z : (read_tree B (written_events evs ++ rest)).refusal ≡ 0 = message_read B _ m in omega arith), stuck last f n p)
      | short s ↦ absurd (let l = (s rest).1 in omega arith)
    ]

    refused_behind : Begins B (written_events evs) → (IsMessage B (written_events evs ++ rest) → ⊥) → Stuck B evs rest →
        (0 < ((read_tree B) (written_events evs ++ rest)).refusal) × ((read_tree B (written_events evs ++ rest)).place ≡ length (written_events evs))
    unfolding read_tree message Follows written_events
    refused_behind b m t = elim (passed_or_short B evs rest (begin (growing B) []) [] (begin_sound B) h) [
      | through last f ↦
          let s : Sound B last (written_events evs) = sound_last last f in
          let c : Run B rest last (written_events evs) = run B rest last (written_events evs) s (after_bytes (written_events evs) rest h) in
          behind last f s c c.way.passed refl c.number refl
      | short s ↦ absurd (let l = (s b.more).0 in let z : (read_tree B (written_events evs ++ b.more)).refusal ≡ 0 = message_read B _ b.whole in omega arith)
    ]
      where
        behind : (last : Standing) → Follows (growing B) (begin (growing B) []) evs last → Sound B last (written_events evs) → (c : Run B rest last (written_events evs)) →
            (ps : List Event) → c.way.passed ≡ ps → (e : ℕ) → c.number ≡ e →
            (0 < ((read_tree B) (written_events evs ++ rest)).refusal) × ((read_tree B (written_events evs ++ rest)).place ≡ length (written_events evs))
        behind last f s c (ev ∷ ps) w e q =
            let g : Follows (growing B) last (ev ∷ ps) c.way.last = rw w at c.way.follows in
            let v : rest ≡ written_event ev ++ (written_events ps ++ c.way.rest) = rw (w, append_assoc) at c.way.whole in
            absurd (t ev (written_events ps ++ c.way.rest) v (sound_begins B g.0 (written_events evs ++ written_event ev) (event_keeps B ev last g.0 (written_events evs) s g.1 g.2)))
        behind last f s c [] w zero q = absurd (m (run_message B rest last (written_events evs) c q))
        behind last f s c [] w (suc e) q =
            let n : 0 < (events (growing B) rest 0 last).refusal = rw (c.outcome_is, q) (omega arith) in
            let l = run_place B rest last (written_events evs) c n in
            rw (reads_on last f rest) (n, rw w at l ∙ add-zero (length (written_events evs)))

    -- A body is refused behind these events exactly if they begin some message, the body is none itself, and no message begins with them and the event that follows.
    -- No event follows a byte that is no kind (21), where the event runs past the body (22), and at the body's end (29).
    pub refused_at_lem : ((0 < ((read_tree B) (written_events evs ++ rest)).refusal) × ((read_tree B (written_events evs ++ rest)).place ≡ length (written_events evs)))
        ↔ (Begins B (written_events evs) × (IsMessage B (written_events evs ++ rest) → ⊥) × Stuck B evs rest)
    refused_at_lem = ((λ p. refused_known p.0 p.1), (λ p. refused_behind p.0 p.1 p.2))

  -- every refused body has such a place: what stands before it is events, and they begin some message
  pub refused_where : (body : List ℕ) → AreBytes body → 0 < ((read_tree B) body).refusal →
      (evs : List Event) × (rest : List ℕ) × (body ≡ written_events evs ++ rest) × ((read_tree B body).place ≡ length (written_events evs))
  unfolding read_tree message
  refused_where body h n =
      let c : Run B body (begin (growing B) []) [] = run B body (begin (growing B) []) [] (begin_sound B) h in
      (c.way.passed, c.way.rest, c.way.whole, run_place B body (begin (growing B) []) [] c n ∙ zero-add (length (written_events c.way.passed)))

  pub refused_begins : (body : List ℕ) → AreBytes body → 0 < ((read_tree B) body).refusal → Begins B (take (read_tree B body).place body)
  refused_begins body h n =
      let w = refused_where body h n in
      let t : take (read_tree B body).place body ≡ written_events w.0
      = ap (λ k. take k body) w.3 ∙ ap (take (length (written_events w.0))) w.2 ∙ take-append_seam (written_events w.0) w.1 in
      rw t ((refused_at_lem w.0 w.1 (rw w.2 at h)).0 (rw (← w.2) (n, w.3))).0

  -- every other body is a message
  pub read_message : (body : List ℕ) → AreBytes body → ((read_tree B body).refusal ≡ 0) ↔ (IsMessage B) body
  unfolding read_tree message
  read_message body h = (
    (λ e. let c : Run B body (begin (growing B) []) [] = run B body (begin (growing B) []) [] (begin_sound B) h in
        run_message B body (begin (growing B) []) [] c (ap (λ o. o.refusal) (sym c.outcome_is) ∙ e)),
    message_read B body,
  )

  -- 21: no message goes on with a byte that is no kind
  pub no_kind : (evs : List Event) → AreBytes (written_events evs) → (c : ℕ) → (c ≡ 1 → ⊥) → (c ≡ 2 → ⊥) → (c ≡ 3 → ⊥) → Begins B (written_events evs ++ c ∷ []) → ⊥
  unfolding read_tree message
  no_kind evs h c one two three b = elim (passed_or_short B evs [] (begin (growing B) []) [] (begin_sound B) (rw (append-nil (written_events evs)) h)) [
    | through last f ↦
        let k : first_event c b.more ≡ bad 21 = first_kind c b.more one two three in
        let o : read_tree B (written_events evs ++ c ∷ b.more) ≡ outcome last 21
        = events_follow (growing B) evs (c ∷ b.more) (begin (growing B) []) last f ∙ events_broken (growing B) c b.more last 21 k in
        let e : ◌≡◌ {A = ℕ} 21 0 = ap (λ x. x.refusal) (sym o) ∙ whole in
        omega arith
    | short s ↦ let l = (s (c ∷ b.more)).0 in let e = whole in omega arith
  ]
    where
      whole : (read_tree B (written_events evs ++ c ∷ b.more)).refusal ≡ 0
      whole = ap (λ y. (read_tree B y).refusal) (sym (append_assoc (written_events evs) (c ∷ []) b.more)) ∙ message_read B _ b.whole

  -- 22: a message cut short is refused, though it begins a message
  pub cut_short : ((read_tree B (1 ∷ 1 ∷ [])).refusal ≡ 22) × Begins B (1 ∷ 1 ∷ [])
  unfolding read_tree message events first_event written message_shaped one_element shaped has_element pick
  cut_short = (refl, record { more = 0 ∷ 3 ∷ 1 ∷ 0 ∷ []; whole = record { root = record { text = none; children = tree childless 1 none childless }; bytes_are = refl; fits = refl } })
