-- What begins a message: reading leads only to where all that is open can be closed, and some events are passed by every body that begins with them, or by none.
use Rattle.std.specs.Prelude.{◌≡◌, true, ℕ, zero, suc, ◌+◌, ◌/◌, ◌<◌, length}
use Rattle.std.proofs.Math.Path.{refl}
use Rattle.std.proofs.Common.{◌∙◌, ap, arith, length-append, get_or-append-add, lt-ltb}
use mathlib.Core.List.{List, [], ◌∷◌, ◌++◌, append_assoc, append-nil}
use Rattle.std.proofs.Math.Option.{Option, none}
use Rattle.rules.specs.State.{label_limit}
use Rattle.lists.specs.Choice.{pick}
use Rattle.rules.specs.Book.{Meaning}
use Rattle.rules.specs.Tree.{Forest, childless, tree, Content, Node}
use Rattle.rules.specs.Message.{most_open, Event, start, end, text, Level, Next, refused, on, place_of, events, on_event}
use Rattle.rules.specs.Asked.{growing, read_tree}
use Rattle.rules.specs.Written.{text_limit, written_start, written_end, written_text, written, has_element, shaped, one_element, message_shaped, written_event, written_events, AreBytes, IsMessage, Begins}
use Rattle.rules.proofs.Message.Events.{event_fits, size_of, Follows, events_on, events_barred, event_refused}
use Rattle.rules.proofs.Written.Shape.{whole_fits}
use Rattle.rules.proofs.Message.Refusals.{root_fits}
use Rattle.rules.proofs.Written.Laws.{Standing, read_tree_lem}
use Rattle.rules.proofs.Message.Open.{Open, opened, Sound, end_opens, end_joins, event_keeps}
use Rattle.rules.proofs.Written.Read.{Run, sound_whole}

-- ── bytes ──
pub after_bytes : (a b : List ℕ) → AreBytes (a ++ b) → AreBytes b
after_bytes a b h i = rw get_or-append-add at (h (length a + i))

pub event_bytes : (ev : Event) (z : List ℕ) → AreBytes (written_event ev ++ z) → event_fits ev ≡ true
event_bytes (start x) z h = let p : x / 256 < 256 = h 2 in lt-ltb x label_limit (omega arith)
event_bytes (end x) z h = let p : x / 256 < 256 = h 2 in lt-ltb x label_limit (omega arith)
event_bytes (text s) z h = lt-ltb (length s) text_limit (h 1)

pub event_long : (ev : Event) → 0 < size_of ev
event_long (start x) = omega arith
event_long (end x) = omega arith
event_long (text s) = omega arith

-- ── reading some events ──
place_of_lem : (e p : ℕ) → 0 < e → place_of e p ≡ p
place_of_lem zero p h = absurd (omega arith)
place_of_lem (suc e) p h = refl

-- B: what the book means to the message
module _ (B : Meaning) where
  -- a message is read
  pub message_read : (body : List ℕ) → IsMessage B body → (read_tree B body).refusal ≡ 0
  message_read body m = ap (λ b. (read_tree B b).refusal) m.bytes_are ∙ ap (λ o. o.refusal) (read_tree_lem B m.root m.fits)

  -- ── what is open can be closed ──
  top_begins : (f : Forest) → root_fits 0 f ≡ true → shaped B most_open f ≡ true → Begins B (written f)
  unfolding written message_shaped one_element shaped has_element pick
  top_begins childless e h = record { more = written_start 1 ++ written_end 1; whole = record { root = record { text = none; children = tree childless 1 none childless }; bytes_are = refl; fits = refl } }
  top_begins (tree f x t kids) e h =
      let root : Content = record { text = none; children = tree f x t kids } in
      record { more = []; whole = record { root = root; bytes_are = append-nil (written (tree f x t kids)); fits = whole_fits B root (record { textless = refl; one = e; inside = h }) } }

  -- bytes that go on by z begin what the longer ones begin
  begins_less : (bytes z : List ℕ) → Begins B (bytes ++ z) → Begins B bytes
  begins_less bytes z b = record { more = z ++ b.more; whole = rw append_assoc at b.whole }

  levels_begin : (l : ℕ) (t : Option (List ℕ)) (f : Forest) (us : List (Level Content)) → Open B l t f us → Begins B (opened l us ++ (written f ++ written_text t))
  unfolding Open opened
  levels_begin l t f [] o = rw (o.textless, append-nil) (top_begins f o.fits o.inside)
  levels_begin l t f (v ∷ us) o =
      begins_less (opened l (v ∷ us) ++ (written f ++ written_text t)) (written_end l)
      (rw (end_joins (opened v.label us) v.held.children f l t v.held.text o.0.textless) at
      (levels_begin v.label v.held.text (tree v.held.children l t f) us (end_opens B l t f v us o)))

  pub sound_begins : (r : Standing) (bytes : List ℕ) → Sound B r bytes → Begins B bytes
  sound_begins r bytes k = rw k.bytes_are at (levels_begin r.top.label r.top.held.text r.top.held.children r.under k.levels)

  -- they are passed, or every body that begins with them is refused before their end
  pub data PassedOrShort (r : Standing) (bytes : List ℕ) (evs : List Event) : Type 0 where
    through : (last : Standing) → Follows (growing B) r evs last → PassedOrShort r bytes evs
    short : ((z : List ℕ) → (0 < (events (growing B) (written_events evs ++ z) 0 r).refusal) × ((events (growing B) (written_events evs ++ z) 0 r).place < length (bytes ++ written_events evs))) →
        PassedOrShort r bytes evs

  pub passed_or_short : (evs : List Event) (rest : List ℕ) (r : Standing) (bytes : List ℕ) → Sound B r bytes → AreBytes (written_events evs ++ rest) → PassedOrShort r bytes evs
  unfolding Follows written_events
  passed_or_short [] rest r bytes k h = through r refl
  passed_or_short (ev ∷ evs) rest r bytes k h = go (on_event (growing B) r (size_of ev) ev) refl (λ r'. passed_or_short evs rest r' (bytes ++ written_event ev))
    where
      g : AreBytes (written_event ev ++ (written_events evs ++ rest))
      g = rw append_assoc at h

      go : (q : Next Content (List Node)) → on_event (growing B) r (size_of ev) ev ≡ q →
          ((r' : Standing) → Sound B r' (bytes ++ written_event ev) → AreBytes (written_events evs ++ rest) → PassedOrShort r' (bytes ++ written_event ev) evs) →
          PassedOrShort r bytes (ev ∷ evs)
      go (refused e) p ih =
          let n : 0 < e = event_refused (growing B) ev (size_of ev) e r p in
          let a : r.place ≡ length bytes = k.place_is in
          let l : 0 < size_of ev = event_long ev in
          short (λ z. rw (append_assoc (written_event ev) (written_events evs) z, events_barred (growing B) ev (written_events evs ++ z) r e p, place_of_lem e r.place n)
          (n, simp length-append (omega arith)))
      go (on r') p ih =
          let fit : event_fits ev ≡ true = event_bytes ev (written_events evs ++ rest) g in
          elim (ih r' (event_keeps B ev r r' bytes k fit p) (after_bytes (written_event ev) (written_events evs ++ rest) g)) [
            | through last f ↦ through last (r', fit, p, f)
            | short n ↦ short (λ z. rw (append_assoc (written_event ev) (written_events evs) z, events_on (growing B) ev (written_events evs ++ z) r r' p, ← (append_assoc bytes)) (n z))
          ]

  -- reading on with no refusal ends a message
  pub run_message : (z : List ℕ) (r : Standing) (bytes : List ℕ) (c : Run B z r bytes) → c.number ≡ 0 → IsMessage B (bytes ++ z)
  run_message z r bytes c e =
      let d = c.done e in
      let k = sound_whole B c.way.last (bytes ++ written_events c.way.passed) c.sound d.1 in
      record {
        root = c.way.last.top.held;
        bytes_are = ap (λ b. bytes ++ b) (c.way.whole ∙ ap (λ b. written_events c.way.passed ++ b) d.0 ∙ append-nil (written_events c.way.passed)) ∙ k.0;
        fits = whole_fits B c.way.last.top.held k.1;
      }

  -- a refusal lies behind what has been read
  pub run_place : (z : List ℕ) (r : Standing) (bytes : List ℕ) (c : Run B z r bytes) → 0 < (events (growing B) z 0 r).refusal →
      (events (growing B) z 0 r).place ≡ length bytes + length (written_events c.way.passed)
  run_place z r bytes c h =
      let n : 0 < c.number = rw c.outcome_is at h in
      ap (λ o. o.place) c.outcome_is ∙ place_of_lem c.number c.way.last.place n ∙ c.sound.place_is ∙ length-append bytes (written_events c.way.passed)
