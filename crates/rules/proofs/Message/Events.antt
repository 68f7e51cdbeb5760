-- AreBytes and events: what an event written out does to a reader, and that every body is some events and a rest at which the reading halts.
-- Section "Day file", events.
use Rattle.std.specs.Prelude.{◌≡◌, Bool, false, eqb, ltb, leb, length, take}
use Rattle.std.proofs.Math.Path.{refl, sym, ap}
use Rattle.std.proofs.Common.{◌∙◌, ap₂, arith, length-append, take-append-drop, length-take-le, ne_eqb, leb-true, le-leb, eqb-true, lt-ltb}
use Rattle.std.proofs.Math.Bool.{true}
use mathlib.Core.List.{List, [], ◌∷◌, ◌++◌, append_assoc}
use Prim.Native.Nat.{ℕ, zero, suc, ◌+◌, ◌-◌, ◌*◌, ◌/◌, ◌%◌, ◌<◌}
use Rattle.std.proofs.Math.ListN.{drop}
use Rattle.std.proofs.Math.Seq.{take-append_seam, drop-append_seam, drop-nil}
use Rattle.rules.specs.State.{label_limit}
use Rattle.rules.specs.Message.{Event, start, end, text, First, bad, got, first_event, labelled, texted, Keeper, Reading, Next, refused, on, unless, outcome, on_event, events, start_refusal, text_refusal, end_refusal, last_refusal}
use Rattle.rules.specs.Written.{text_limit, written_event, written_events, AreBytes}

-- a label is two bytes, the length of a text one
abbrev pub event_fits : Event → Bool
event_fits (start x) = ltb x label_limit
event_fits (end x) = ltb x label_limit
event_fits (text s) = ltb (length s) text_limit

abbrev pub size_of : Event → ℕ
size_of ev = length (written_event ev)

-- ── an event written out is the first event of its bytes ──
record Leading (bytes : List ℕ) (ev : Event) (z : List ℕ) : Type 0 where
  kind : ℕ
  rest : List ℕ
  whole : bytes ≡ kind ∷ rest
  first : first_event kind rest ≡ got ev (size_of ev)
  left : drop (size_of ev - 1) rest ≡ z

two_bytes : (x : ℕ) → x % 256 + x / 256 * 256 ≡ x
two_bytes x = omega arith

leads : (ev : Event) (z : List ℕ) → Leading (written_event ev ++ z) ev z
unfolding first_event
leads (start x) z = record { kind = 1; rest = x % 256 ∷ x / 256 ∷ z; whole = refl; first = ap (λ y. got (start y) 3) (two_bytes x); left = refl }
leads (end x) z = record { kind = 3; rest = x % 256 ∷ x / 256 ∷ z; whole = refl; first = ap (λ y. got (end y) 3) (two_bytes x); left = refl }
leads (text s) z = record {
  kind = 2;
  rest = length s ∷ (s ++ z);
  whole = refl;
  first = rw (le-leb (length s) (length (s ++ z)) (rw length-append (omega arith)), texted) (ap₂ (λ t n. got (text t) n) (take-append_seam s z) (omega arith));
  left = let m : suc (suc (length s)) - 1 ≡ suc (length s) = omega arith in rw m (drop-append_seam s z);
}

module _ {P S : Type 0} (how : Keeper P S) where
  -- the bytes of the event read last are passed over
  pub events_skip : (k : ℕ) (bytes : List ℕ) (r : Reading P S) → events how bytes k r ≡ events how (drop k bytes) 0 r
  unfolding events
  events_skip zero bytes r = refl
  events_skip (suc k) [] r = refl
  events_skip (suc k) (c ∷ cs) r = events_skip k cs r

  -- an event written out leads on
  pub events_on : (ev : Event) (z : List ℕ) (r r' : Reading P S) → on_event how r (size_of ev) ev ≡ on r' → events how (written_event ev ++ z) 0 r ≡ events how z 0 r'
  unfolding events
  events_on ev z r r' e = go (leads ev z)
    where
      go : Leading (written_event ev ++ z) ev z → events how (written_event ev ++ z) 0 r ≡ events how z 0 r'
      go l = rw (l.whole, l.first, events) (rw e (events_skip (size_of ev - 1) l.rest r' ∙ ap (λ b. events how b 0 r') l.left))

  -- or is refused
  pub events_barred : (ev : Event) (z : List ℕ) (r : Reading P S) (e : ℕ) → on_event how r (size_of ev) ev ≡ refused e → events how (written_event ev ++ z) 0 r ≡ outcome r e
  unfolding events
  events_barred ev z r e b = go (leads ev z)
    where
      go : Leading (written_event ev ++ z) ev z → events how (written_event ev ++ z) 0 r ≡ outcome r e
      go l = rw (l.whole, l.first, events) (rw b refl)

  -- bytes that begin with no event, and no bytes
  pub events_broken : (c : ℕ) (cs : List ℕ) (r : Reading P S) (e : ℕ) → first_event c cs ≡ bad e → events how (c ∷ cs) 0 r ≡ outcome r e
  unfolding events
  events_broken c cs r e b = rw (b, events)

  pub events_ended : (r : Reading P S) → events how [] 0 r ≡ outcome r (last_refusal (length r.under) r.top.stage)
  unfolding events
  events_ended r = refl

-- a byte that is no kind begins no event
pub first_kind : (c : ℕ) (cs : List ℕ) → (c ≡ 1 → ⊥) → (c ≡ 2 → ⊥) → (c ≡ 3 → ⊥) → first_event c cs ≡ bad 21
unfolding first_event
first_kind c cs p q r = rw (ne_eqb c 1 p, ne_eqb c 2 q, ne_eqb c 3 r, first_event)

unfoldable pub Splits : ℕ → List ℕ → First → Type 0
Splits c cs (bad e) = 0 < e
Splits c cs (got ev size) = (c ∷ cs ≡ written_event ev ++ drop (size - 1) cs) × (size ≡ size_of ev) × (event_fits ev ≡ true)

-- k: the kind byte of the events f
labelled_splits : (k : ℕ) (f : ℕ → Event) → ((x : ℕ) → written_event (f x) ≡ k ∷ x % 256 ∷ x / 256 ∷ []) → ((x : ℕ) → event_fits (f x) ≡ ltb x label_limit) →
    (cs : List ℕ) → AreBytes cs → Splits k cs (labelled f cs)
unfolding Splits
labelled_splits k f w g [] h = omega arith
labelled_splits k f w g (a ∷ []) h = omega arith
labelled_splits k f w g (a ∷ b ∷ rest) h =
    let p : a < 256 = h 0 in
    let q : b < 256 = h 1 in
    let m : a ≡ (a + b * 256) % 256 = omega arith in
    let n : b ≡ (a + b * 256) / 256 = omega arith in
    (rw w (ap₂ (λ i j. k ∷ i ∷ j ∷ rest) m n), rw w refl, g (a + b * 256) ∙ lt-ltb (a + b * 256) label_limit (omega arith))

text_splits : (cs : List ℕ) → AreBytes cs → Splits 2 cs (texted cs)
unfolding Splits
text_splits [] h = omega arith
text_splits (n ∷ rest) h = go (leb n (length rest)) refl
  where
    go : (t : Bool) → leb n (length rest) ≡ t → Splits 2 (n ∷ rest) (elim t [ true ↦ got (text (take n rest)) (2 + n) | false ↦ bad 22 ])
    go true e =
        let l : length (take n rest) ≡ n = length-take-le n rest (leb-true n (length rest) e) in
        let m : 2 + n - 1 ≡ suc n = omega arith in
        let p : n < 256 = h 0 in
        (rw (l, m) (ap (λ s. 2 ∷ n ∷ s) (sym (take-append-drop n rest))), rw l (omega arith), rw l (lt-ltb n text_limit p))
    go false e = omega arith

pub first_splits : (c : ℕ) (cs : List ℕ) → AreBytes cs → Splits c cs (first_event c cs)
unfolding Splits first_event
first_splits c cs h = go (eqb c 1) (eqb c 2) (eqb c 3) refl refl refl
  where
    go : (t u v : Bool) → eqb c 1 ≡ t → eqb c 2 ≡ u → eqb c 3 ≡ v →
        Splits c cs (elim t [ true ↦ labelled start cs | false ↦ elim u [ true ↦ texted cs | false ↦ elim v [ true ↦ labelled end cs | false ↦ bad 21 ] ] ])
    go true u v p q w = rw (eqb-true c 1 p) (labelled_splits 1 start (λ x. refl) (λ x. refl) cs h)
    go false true v p q w = rw (eqb-true c 2 q) (text_splits cs h)
    go false false true p q w = rw (eqb-true c 3 w) (labelled_splits 3 end (λ x. refl) (λ x. refl) cs h)
    go false false false p q w = omega arith

-- ── how far a body is read ──
pub unless_on : {P S : Type 0} (e : ℕ) (r r' : Reading P S) → unless e r ≡ on r' → (e ≡ 0) × (r ≡ r')
unless_on zero r r' h = (refl, cc)
unless_on (suc e) r r' h = absurd (let z : ◌≡◌ {A = ℕ} 0 1 = cc in omega arith)

module _ {P S : Type 0} (how : Keeper P S) where
  -- some events, one after another
  unfoldable pub Follows : Reading P S → List Event → Reading P S → Type 0
  Follows r [] last = r ≡ last
  Follows r (ev ∷ evs) last = (r' : Reading P S) × (event_fits ev ≡ true) × (on_event how r (size_of ev) ev ≡ on r') × Follows r' evs last

  pub events_follow : (evs : List Event) (z : List ℕ) (r last : Reading P S) → Follows r evs last → events how (written_events evs ++ z) 0 r ≡ events how z 0 last
  unfolding Follows written_events
  events_follow [] z r last f = ap (λ x. events how z 0 x) f
  events_follow (ev ∷ evs) z r last f =
      ap (λ b. events how b 0 r) (append_assoc (written_event ev) (written_events evs) z)
      ∙ events_on how ev (written_events evs ++ z) r f.0 f.2
      ∙ events_follow evs z f.0 last f.3

  -- where the reading halts: no bytes are left, or they begin with no event, or with one that is refused
  pub data Halt (r : Reading P S) (rest : List ℕ) : Type 0 where
    ended : rest ≡ [] → Halt r rest
    broken : (c : ℕ) (cs : List ℕ) (e : ℕ) → rest ≡ c ∷ cs → first_event c cs ≡ bad e → 0 < e → Halt r rest
    barred : (ev : Event) (z : List ℕ) (e : ℕ) → rest ≡ written_event ev ++ z → event_fits ev ≡ true → on_event how r (size_of ev) ev ≡ refused e → Halt r rest

  unless_refused : (n e : ℕ) (r : Reading P S) → unless n r ≡ refused e → 0 < e
  unless_refused zero e r h = absurd (let z : ◌≡◌ {A = ℕ} 0 1 = cc in omega arith)
  unless_refused (suc n) e r h = let z : suc n ≡ e = cc in omega arith

  pub event_refused : (ev : Event) (size e : ℕ) (r : Reading P S) → on_event how r size ev ≡ refused e → 0 < e
  event_refused (start x) size e r h = unless_refused (start_refusal (length r.under) r.top.label r.top.stage x) e _ h
  event_refused (text s) size e r h = unless_refused (text_refusal (length r.under) r.top.stage (how.bars s)) e _ h
  event_refused (end x) size e r h = unless_refused (end_refusal (length r.under) r.top.label x) e _ h

  -- the refusal there; without one, the body is read
  pub halts : (r : Reading P S) (rest : List ℕ) → Halt r rest →
      (e : ℕ) × (events how rest 0 r ≡ outcome r e) × (e ≡ 0 → (rest ≡ []) × (last_refusal (length r.under) r.top.stage ≡ 0))
  halts r rest (ended w) = (last_refusal (length r.under) r.top.stage, rw w (events_ended how r), λ z. (w, z))
  halts r rest (broken c cs e w b h) = (e, rw w (events_broken how c cs r e b), λ z. absurd (omega arith))
  halts r rest (barred ev z e w fit b) =
      (e, rw w (events_barred how ev z r e b), λ n. absurd (let h : 0 < e = event_refused ev (size_of ev) e r b in omega arith))

  pub record Course (bytes : List ℕ) (r : Reading P S) : Type 0 where
    pub passed : List Event
    pub last : Reading P S
    pub rest : List ℕ
    pub whole : bytes ≡ written_events passed ++ rest
    pub follows : Follows r passed last
    pub halt : Halt last rest

  pub course : (bytes : List ℕ) (k : ℕ) (r : Reading P S) → AreBytes bytes → Course (drop k bytes) r
  unfolding Follows written_events Splits
  course [] k r h = record { passed = []; last = r; rest = []; whole = drop-nil k; follows = refl; halt = ended refl }
  course (c ∷ cs) (suc k) r h = course cs k r (λ i. h (suc i))
  course (c ∷ cs) zero r h = go (first_event c cs) refl (first_splits c cs (λ i. h (suc i))) (λ k r'. course cs k r' (λ i. h (suc i)))
    where
      next : (ev : Event) → event_fits ev ≡ true → c ∷ cs ≡ written_event ev ++ drop (size_of ev - 1) cs → (q : Next P S) → on_event how r (size_of ev) ev ≡ q →
          ((r' : Reading P S) → Course (drop (size_of ev - 1) cs) r') → Course (c ∷ cs) r
      next ev fit w (refused e) p ih = record { passed = []; last = r; rest = c ∷ cs; whole = refl; follows = refl; halt = barred ev (drop (size_of ev - 1) cs) e w fit p }
      next ev fit w (on r') p ih =
          let l : Course (drop (size_of ev - 1) cs) r' = ih r' in
          record {
            passed = ev ∷ l.passed;
            last = l.last;
            rest = l.rest;
            whole = w ∙ ap (λ b. written_event ev ++ b) l.whole ∙ sym (append_assoc (written_event ev) (written_events l.passed) l.rest);
            follows = (r', fit, p, l.follows);
            halt = l.halt;
          }

      go : (q : First) → first_event c cs ≡ q → Splits c cs q → ((k : ℕ) (r' : Reading P S) → Course (drop k cs) r') → Course (c ∷ cs) r
      go (bad e) p s ih = record { passed = []; last = r; rest = c ∷ cs; whole = refl; follows = refl; halt = broken c cs e refl p s }
      go (got ev size) p s ih =
          let w : c ∷ cs ≡ written_event ev ++ drop (size_of ev - 1) cs = rw s.1 at s.0 in
          next ev s.2 w (on_event how r (size_of ev) ev) refl (ih (size_of ev - 1))
