-- A message is refused at a place by the number that the table gives there, and by no other.
use Rattle.std.specs.Prelude.{◌≡◌, ◌↔◌, drop}
use Rattle.std.proofs.Math.Path.{refl, sym, ap}
use Rattle.std.proofs.Common.{◌∙◌, arith}
use mathlib.Core.List.{List, [], ◌∷◌, ◌++◌}
use Prim.Native.Nat.{ℕ, zero, suc, ◌-◌, ◌<◌}
use Rattle.std.proofs.Math.ListN.{length}
use Rattle.lists.specs.Checks.{first_of, FirstToFail}
use Rattle.lists.specs.Checks.Laws.{given_first, first_given}
use Rattle.rules.specs.Book.{Meaning}
use Rattle.rules.specs.Message.{Event, start, text, end, First, bad, got, first_event, Reading, Keeper, Next, refused, on, outcome, unless, on_event, begin, events, message}
use Rattle.rules.proofs.Message.Events.{size_of, Follows, Splits, first_splits, events_ended, events_broken, events_follow}
use Rattle.rules.proofs.Message.Open.{Sound, event_keeps, follow_keeps, begin_sound}
use Rattle.rules.proofs.Message.Place.{refused_at_lem}
use Rattle.rules.proofs.Run.Laws.{bad_event, refused_event, accepted_event}
use Rattle.rules.specs.Asked.{growing, read_tree}
use Rattle.rules.specs.Written.{written_event, written_events, AreBytes, Begins, Stuck}
use Rattle.rules.proofs.Written.Laws.{Standing}
use Rattle.rules.proofs.Written.Beginnings.{through, short, message_read, sound_begins, after_bytes, passed_or_short}
use Rattle.rules.specs.MessageTable.{root_alone, opens_after, message_rows}
use Rattle.rules.proofs.MessageTable.Laws.{event_number, number_first, number_at, number_is, stands_begin, stands_follow}

-- ── a message that is read has place 0 ──
at_none : {P S : Type 0} (r : Reading P S) (e : ℕ) → e ≡ 0 → (outcome r e).place ≡ 0
at_none r e h = rw h refl

module _ {P S : Type 0} (how : Keeper P S) where
  place_none : (cs : List ℕ) (k : ℕ) (r : Reading P S) → (events how cs k r).refusal ≡ 0 → (events how cs k r).place ≡ 0
  unfolding events
  place_none [] k r h = at_none r _ h
  place_none (c ∷ cs) (suc k) r h = place_none cs k r h
  place_none (c ∷ cs) zero r h = go (first_event c cs) refl (λ k r'. place_none cs k r')
    where
      by : (n : ℕ) → events how (c ∷ cs) 0 r ≡ outcome r n → (events how (c ∷ cs) 0 r).place ≡ 0
      by n o = ap (λ x. x.place) o ∙ at_none r n (ap (λ x. x.refusal) (sym o) ∙ h)

      event : (ev : Event) (size : ℕ) → first_event c cs ≡ got ev size → (q : Next P S) → on_event how r size ev ≡ q →
          ((k : ℕ) (r' : Reading P S) → (events how cs k r').refusal ≡ 0 → (events how cs k r').place ≡ 0) → (events how (c ∷ cs) 0 r).place ≡ 0
      event ev size d (refused e) p ih = by e (refused_event how c cs r ev size e d p)
      event ev size d (on r') p ih =
          let o : events how (c ∷ cs) 0 r ≡ events how cs (size - 1) r' = accepted_event how c cs r ev size r' d p in
          ap (λ x. x.place) o ∙ ih (size - 1) r' (ap (λ x. x.refusal) (sym o) ∙ h)

      go : (f : First) → first_event c cs ≡ f → ((k : ℕ) (r' : Reading P S) → (events how cs k r').refusal ≡ 0 → (events how cs k r').place ≡ 0) → (events how (c ∷ cs) 0 r).place ≡ 0
      go (bad e) d ih = by e (bad_event how c cs r e d)
      go (got ev size) d ih = event ev size d (on_event how r size ev) refl ih

-- B: what the book means to the message
module _ (B : Meaning) where
  -- ── the reader halts with the number at its place ──
  module _ (r : Standing) where
    event_barred : (ev : Event) (size e : ℕ) → event_number B r ev ≡ suc e → on_event (growing B) r size ev ≡ refused (suc e)
    event_barred (start x) size e h = rw h refl
    event_barred (text s) size e h = rw h refl
    event_barred (end x) size e h = rw h refl

    unless_none : (n : ℕ) (q : Standing) → n ≡ 0 → (r' : Standing) × (unless n q ≡ on r')
    unless_none n q h = (q, rw h refl)

    event_passed : (ev : Event) (size : ℕ) → event_number B r ev ≡ 0 → (r' : Standing) × (on_event (growing B) r size ev ≡ on r')
    event_passed (start x) size h = unless_none _ _ h
    event_passed (text s) size h = unless_none _ _ h
    event_passed (end x) size h = unless_none _ _ h

    number_halts : (rest : List ℕ) (e : ℕ) → number_at B r rest ≡ suc e → events (growing B) rest 0 r ≡ outcome r (suc e)
    number_halts [] e h = events_ended (growing B) r ∙ ap (outcome r) h
    number_halts (c ∷ cs) e h = go (first_event c cs) refl h
      where
        go : (f : First) → first_event c cs ≡ f → number_first B r f ≡ suc e → events (growing B) (c ∷ cs) 0 r ≡ outcome r (suc e)
        go (bad n) d k = events_broken (growing B) c cs r n d ∙ ap (outcome r) k
        go (got ev size) d k = refused_event (growing B) c cs r ev size (suc e) d (event_barred ev size e k)

  -- ── the number at a place of a message ──
  module _ (evs : List Event) (rest : List ℕ) (h : AreBytes (written_events evs ++ rest)) where
    abbrev body : List ℕ
    body = written_events evs ++ rest

    abbrev table : ℕ
    table = first_of (message_rows B (opens_after root_alone evs) rest)

    module _ (last : Standing) (f : Follows (growing B) (begin (growing B) []) evs last) where
      reads_on : read_tree B body ≡ events (growing B) rest 0 last
      unfolding read_tree message
      reads_on = events_follow (growing B) evs rest (begin (growing B) []) last f

      sound : Sound B last (written_events evs)
      sound = follow_keeps B evs (begin (growing B) []) last [] (begin_sound B) f

      table_is : table ≡ number_at B last rest
      table_is = number_is B last (opens_after root_alone evs) (stands_follow (growing B) evs (begin (growing B) []) last root_alone (stands_begin (growing B) []) f) rest

      -- where the table gives a number, the message is refused by it there
      table_refuses : (e : ℕ) → table ≡ suc e → ((read_tree B body).refusal ≡ suc e) × ((read_tree B body).place ≡ length (written_events evs))
      table_refuses e t =
          let o : read_tree B body ≡ outcome last (suc e) = reads_on ∙ number_halts last rest e (sym table_is ∙ t) in
          (ap (λ x. x.refusal) o, ap (λ x. x.place) o ∙ sound.place_is)

      -- where it gives none, the message is not refused there
      table_passes : table ≡ 0 → 0 < ((read_tree B) body).refusal → Stuck B evs rest → ⊥
      unfolding Splits
      table_passes t n stuck = go rest refl
        where
          none : number_at B last rest ≡ 0
          none = sym table_is ∙ t

          next : (c : ℕ) (cs : List ℕ) → rest ≡ c ∷ cs → (q : First) → Splits c cs q → number_first B last q ≡ 0 → ⊥
          next c cs w (bad e) s k = omega arith
          next c cs w (got ev size) s k =
              let p = event_passed last ev (size_of ev) k in
              stuck ev (drop (size - 1) cs) (w ∙ s.0) (sound_begins B p.0 (written_events evs ++ written_event ev) (event_keeps B ev last p.0 (written_events evs) sound s.2 p.1))

          go : (z : List ℕ) → rest ≡ z → ⊥
          go [] w =
              let o : read_tree B body ≡ outcome last (number_at B last []) = reads_on ∙ ap (λ z. events (growing B) z 0 last) w ∙ events_ended (growing B) last in
              let e : (read_tree B body).refusal ≡ 0 = ap (λ x. x.refusal) o ∙ rw w at none in
              omega arith
          go (c ∷ cs) w =
              let b : AreBytes (c ∷ cs) = rw w at (after_bytes (written_events evs) rest h) in
              next c cs w (first_event c cs) (first_splits c cs (λ i. b (suc i))) (rw w at none)

    -- it is refused there by n exactly if the events begin some message, and a row with number n fails and no row before
    -- it in the table does
    pub refused_row : (n : ℕ) → 0 < n →
        (((read_tree B body).refusal ≡ n) × ((read_tree B body).place ≡ length (written_events evs)))
        ↔ (Begins B (written_events evs) × FirstToFail (message_rows B (opens_after root_alone evs) rest) n)
    unfolding read_tree message
    refused_row n z = (there, back)
      where
        there : ((read_tree B body).refusal ≡ n) × ((read_tree B body).place ≡ length (written_events evs)) →
            Begins B (written_events evs) × FirstToFail (message_rows B (opens_after root_alone evs) rest) n
        there p =
            let known = (refused_at_lem B evs rest h).0 (rw p.0 z, p.1) in
            elim (passed_or_short B evs rest (begin (growing B) []) [] (begin_sound B) h) [
              | through last f ↦ (known.0, by last f known.2 table refl)
              | short s ↦ absurd (let l = (s rest).1 in omega arith)
            ]
          where
            by : (last : Standing) → Follows (growing B) (begin (growing B) []) evs last → Stuck B evs rest → (t : ℕ) → table ≡ t → FirstToFail (message_rows B (opens_after root_alone evs) rest) n
            by last f stuck zero e = absurd (table_passes last f e (rw p.0 z) stuck)
            by last f stuck (suc m) e =
                let same : table ≡ n = e ∙ sym (table_refuses last f m e).0 ∙ p.0 in
                first_given (message_rows B (opens_after root_alone evs) rest) n z same

        back : Begins B (written_events evs) × FirstToFail (message_rows B (opens_after root_alone evs) rest) n →
            ((read_tree B body).refusal ≡ n) × ((read_tree B body).place ≡ length (written_events evs))
        back q =
            let same : table ≡ n = given_first (message_rows B (opens_after root_alone evs) rest) n q.1 in
            elim (passed_or_short B evs rest (begin (growing B) []) [] (begin_sound B) h) [
              | through last f ↦ by last f n refl same
              | short s ↦ absurd (let l = (s q.0.more).0 in let e : (read_tree B (written_events evs ++ q.0.more)).refusal ≡ 0 = message_read B _ q.0.whole in omega arith)
            ]
          where
            by : (last : Standing) → Follows (growing B) (begin (growing B) []) evs last → (m : ℕ) → n ≡ m → table ≡ m → ((read_tree B body).refusal ≡ n) × ((read_tree B body).place ≡ length (written_events evs))
            by last f zero e t = absurd (omega arith)
            by last f (suc m) e t = rw e (table_refuses last f m t)

  pub read_place : (body : List ℕ) → (read_tree B body).refusal ≡ 0 → (read_tree B body).place ≡ 0
  unfolding read_tree message
  read_place body h = place_none (growing B) body 0 (begin (growing B) []) h
