-- Two uses of the one reader, one the image of the other: they refuse alike, and what one reads is the image of what the other reads.
use Rattle.std.proofs.Math.Path.{◌≡◌, refl, ap}
use Rattle.std.proofs.Common.{sym, ◌∙◌, arith, eqb-true}
use Rattle.std.specs.Prelude.{Bool, true, false, ◌||◌, not, eqb, length}
use mathlib.Core.List.{List, [], ◌∷◌, map}
use Prim.Native.Nat.{ℕ, zero, suc, ◌+◌, ◌-◌}
use Rattle.std.proofs.lemmas.List.{length-map}
use Rattle.lists.specs.Checks.{first_of}
use Rattle.rules.specs.State.{attribute}
use Rattle.rules.specs.Message.{Event, start, text, end, First, bad, got, first_event, Level, Reading, Keeper, start_refusal, text_refusal, end_refusal, Next, refused, on, Outcome, stage_after, unless, outcome, on_start, on_text, shut_into, on_end, on_event, events, begin, message}

-- a text is accepted only in a level where nothing or attributes came
pub text_stage : (depth stage : ℕ) (out : Bool) → text_refusal depth stage out ≡ 0 → stage ≡ 0
unfolding text_refusal first_of
text_stage depth stage out e = go (eqb depth 0) (eqb stage 0) refl e
  where
    go : (d t : Bool) → eqb stage 0 ≡ t → ◌≡◌ {A = ℕ} (elim (d || not t) [ true ↦ 26 | false ↦ elim out [ true ↦ 27 | false ↦ 0 ] ]) 0 → stage ≡ 0
    go true t h k = absurd (omega arith)
    go false true h k = eqb-true stage 0 h
    go false false h k = absurd (omega arith)

module _ {P S P' S' : Type 0} (f : P → P') (g : S → S') where
  abbrev map_level : Level P → Level P'
  map_level l = record { label = l.label; stage = l.stage; held = f l.held }

  abbrev pub map_reading : Reading P S → Reading P' S'
  map_reading r = record { place = r.place; top = map_level r.top; under = map map_level r.under; state = g r.state }

  abbrev map_next : Next P S → Next P' S'
  map_next (refused e) = refused e
  map_next (on r) = on (map_reading r)

  abbrev pub map_outcome : Outcome P S → Outcome P' S'
  map_outcome o = record { refusal = o.refusal; place = o.place; root = f o.root; state = g o.state }

  unless_map : (e : ℕ) (r : Reading P S) → unless e (map_reading r) ≡ map_next (unless e r)
  unless_map zero r = refl
  unless_map (suc e) r = refl

  -- the two keepers agree; on a text, where the level holds none yet, as Bare says
  pub record Alike (how : Keeper P S) (how' : Keeper P' S') (Bare : P → Type 0) : Type 0 where
    pub fresh_is : f how.fresh ≡ how'.fresh
    pub bars_is : (s : List ℕ) → how.bars s ≡ how'.bars s
    pub fresh_bare : Bare how.fresh
    pub said_is : (s : List ℕ) (p : P) → Bare p → f (how.said s p) ≡ how'.said s (f p)
    pub shut_is : (x : ℕ) (c p : P) (s : S) → how'.shut x (f c) (f p) (g s) ≡ (f (how.shut x c p s).0, g (how.shut x c p s).1)
    pub shut_bare : (x : ℕ) (c p : P) (s : S) → Bare p → Bare (how.shut x c p s).0

  module _ (how : Keeper P S) (how' : Keeper P' S') (Bare : P → Type 0) (alike : Alike how how' Bare) where
    -- a level where nothing or attributes came holds no text
    abbrev Plain : Level P → Type 0
    Plain l = l.stage ≡ 0 → Bare l.held

    abbrev AllPlain : List (Level P) → Type 0
    AllPlain [] = Unit {0}
    AllPlain (l ∷ ls) = Plain l × AllPlain ls

    abbrev Ok : Reading P S → Type 0
    Ok r = Plain r.top × AllPlain r.under

    abbrev NextOk : Next P S → Type 0
    NextOk (refused e) = Unit {0}
    NextOk (on r) = Ok r

    unless_ok : (e : ℕ) (r : Reading P S) → Ok r → NextOk (unless e r)
    unless_ok zero r h = h
    unless_ok (suc e) r h = tt

    parent_plain : (a : Bool) (l : Level P) → Plain l → stage_after a l.stage ≡ 0 → Bare l.held
    parent_plain true l h e = h e
    parent_plain false l h e = absurd (omega arith)

    shut_ok : (r : Reading P S) (size : ℕ) (ls : List (Level P)) → Ok r → AllPlain ls → Ok (shut_into how r size ls)
    shut_ok r size [] h k = h
    shut_ok r size (l ∷ ls) h k = (λ e. alike.shut_bare r.top.label r.top.held l.held r.state (k.0 e), k.1)

    event_ok : (r : Reading P S) (size : ℕ) (ev : Event) → Ok r → NextOk (on_event how r size ev)
    event_ok r size (start x) h =
        unless_ok (start_refusal (length r.under) r.top.label r.top.stage x) _
        (λ e. alike.fresh_bare, (parent_plain (attribute x) r.top h.0, h.1))
    event_ok r size (text s) h = unless_ok (text_refusal (length r.under) r.top.stage (how.bars s)) _ (λ e. absurd (omega arith), h.1)
    event_ok r size (end x) h = unless_ok (end_refusal (length r.under) r.top.label x) _ (shut_ok r size r.under h h.1)

    long : (r : Reading P S) → length (map map_level r.under) ≡ length r.under
    long r = length-map r.under map_level

    start_map : (r : Reading P S) (size x : ℕ) → on_start how' (map_reading r) size x ≡ map_next (on_start how r size x)
    start_map r size x = rw (long r, ← alike.fresh_is) (unless_map (start_refusal (length r.under) r.top.label r.top.stage x) _)

    text_map : (r : Reading P S) (size : ℕ) (s : List ℕ) → Ok r → on_text how' (map_reading r) size s ≡ map_next (on_text how r size s)
    text_map r size s h = rw (long r, ← alike.bars_is s) (go (text_refusal (length r.under) r.top.stage (how.bars s)) refl)
      where
        go : (e : ℕ) → text_refusal (length r.under) r.top.stage (how.bars s) ≡ e →
            unless e (record {
              place = r.place + size;
              top = record { label = r.top.label; stage = 2; held = how'.said s (f r.top.held) };
              under = map map_level r.under;
              state = g r.state;
            })
            ≡ map_next (unless e (record {
              place = r.place + size;
              top = record { label = r.top.label; stage = 2; held = how.said s r.top.held };
              under = r.under;
              state = r.state;
            }))
        go zero e = rw (alike.said_is s r.top.held (h.0 (text_stage (length r.under) r.top.stage (how.bars s) e)))
        go (suc n) e = refl

    shut_map : (r : Reading P S) (size : ℕ) (ls : List (Level P)) → shut_into how' (map_reading r) size (map map_level ls) ≡ map_reading (shut_into how r size ls)
    shut_map r size [] = refl
    shut_map r size (l ∷ ls) = rw (alike.shut_is r.top.label r.top.held l.held r.state) refl

    end_map : (r : Reading P S) (size x : ℕ) → on_end how' (map_reading r) size x ≡ map_next (on_end how r size x)
    end_map r size x =
        rw (long r, shut_map r size r.under) (unless_map (end_refusal (length r.under) r.top.label x) (shut_into how r size r.under))

    event_map : (r : Reading P S) (size : ℕ) (ev : Event) → Ok r → on_event how' (map_reading r) size ev ≡ map_next (on_event how r size ev)
    event_map r size (start x) h = start_map r size x
    event_map r size (text s) h = text_map r size s h
    event_map r size (end x) h = end_map r size x

    events_map : (bytes : List ℕ) (k : ℕ) (r : Reading P S) → Ok r → events how' bytes k (map_reading r) ≡ map_outcome (events how bytes k r)
    unfolding events
    events_map [] k r h = rw (long r)
    events_map (c ∷ cs) (suc k) r h = events_map cs k r h
    events_map (c ∷ cs) zero r h = go (first_event c cs) (λ k r'. events_map cs k r')
      where
        next : (q : Next P S) (k : ℕ) → NextOk q → ((r' : Reading P S) → Ok r' → events how' cs k (map_reading r') ≡ map_outcome (events how cs k r')) →
            ◌≡◌ {A = Outcome P' S'} (elim (map_next q) [ refused e ↦ outcome (map_reading r) e | on r' ↦ events how' cs k r' ])
            (map_outcome (elim q [ refused e ↦ outcome r e | on r' ↦ events how cs k r' ]))
        next (refused e) k o ih = refl
        next (on r') k o ih = ih r' o

        go : (q : First) → ((k : ℕ) (r' : Reading P S) → Ok r' → events how' cs k (map_reading r') ≡ map_outcome (events how cs k r')) →
            ◌≡◌ {A = Outcome P' S'} (elim q [
              | bad e ↦ outcome (map_reading r) e
              | got ev size ↦ elim (on_event how' (map_reading r) size ev) [ refused e ↦ outcome (map_reading r) e | on r' ↦ events how' cs (size - 1) r' ]
            ])
            (map_outcome (elim q [
              | bad e ↦ outcome r e
              | got ev size ↦ elim (on_event how r size ev) [ refused e ↦ outcome r e | on r' ↦ events how cs (size - 1) r' ]
            ]))
        go (bad e) ih = refl
        go (got ev size) ih = rw (event_map r size ev h) (next (on_event how r size ev) (size - 1) (event_ok r size ev h) (ih (size - 1)))

    pub message_map : (bytes : List ℕ) (s : S) → message how' bytes (g s) ≡ map_outcome (message how bytes s)
    unfolding message
    message_map bytes s =
        ap (λ h. events how' bytes 0 (record { place = 0; top = record { label = 0; stage = 0; held = h }; under = []; state = g s })) (sym alike.fresh_is)
        ∙ events_map bytes 0 (begin how s) (λ e. alike.fresh_bare, tt)
