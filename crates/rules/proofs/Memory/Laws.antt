-- Laws of the inner call for any filled slots, right or wrong: its ways out, and what it leaves as it was. Section "Questions and the memory".
use Rattle.std.specs.Prelude.{◌≡◌, refl, Bool, true, false, List, ◌++◌, ℕ, zero, suc, ◌+◌, ◌-◌, ◌*◌, ◌≤◌, ◌<◌, ltb, length, take, drop}
use Rattle.std.proofs.Common.{sym, ◌∙◌, ap, not-suc-le-zero, arith, length-append, drop-drop, take-take}
use Rattle.std.proofs.Math.Option.{Option, none, some, some-injective, none-ne-some, some-ne-none}
use Rattle.std.proofs.Math.Decide.{dec_lt}
use borrow.Author.Tests.{ltb-true, ltb-false, lt-ltb, le-ltb}
use Rattle.lists.specs.Choice.{pick}
use Rattle.lists.specs.Parts.{patch}
use Rattle.lists.specs.Choice.Laws.{pick_true, pick_false}
use Rattle.lists.specs.Parts.Laws.{patch_long, patch_past, patch_front}
use Rattle.lists.specs.Same.{same_list}
use Rattle.rules.specs.State.{State}
use Rattle.rules.specs.Sets.{set_width, Question, work_out}
use Rattle.rules.proofs.Sets.Laws.{set_of_long}
use Rattle.rules.specs.Memory.{slot_width, key_of, slot_question, slot_answer, slots_lent, Kept, first_slot, keep, reply_by, ask, FirstToAsk, slot_of}
use Rattle.rules.proofs.Asked.Different.{same_list_eq}

-- none found: none of them asks it
pub slot_none : (m : List ℕ) (n : ℕ) (q : Question) → first_slot m n q ≡ none → (i : ℕ) → i < n → same_list (slot_question m i) (key_of q) ≡ false
unfolding first_slot pick
slot_none m zero q e i h = absurd (not-suc-le-zero h)
slot_none m (suc n) q e i h = go (first_slot m n q) (same_list (slot_question m n) (key_of q)) refl (λ u l. slot_none m n q u i l) e
  where
    go : (o : Option ℕ) (t : Bool) → same_list (slot_question m n) (key_of q) ≡ t → (o ≡ none → i < n → same_list (slot_question m i) (key_of q) ≡ false) →
        ◌≡◌ {A = Option ℕ} (elim o [ some i ↦ some i | none ↦ pick t (some n) none ]) none → same_list (slot_question m i) (key_of q) ≡ false
    go (some j) t d ih e = absurd (some-ne-none j e)
    go none true d ih e = absurd (some-ne-none n e)
    go none false d ih e = elim (dec_lt i n) [
      | yes l ↦ ih refl l
      | no l ↦ let k : i ≡ n = omega arith in rw k d
    ]

pub slot_some : (m : List ℕ) (n : ℕ) (q : Question) (i : ℕ) → first_slot m n q ≡ some i → FirstToAsk m n q i
unfolding first_slot pick
slot_some m zero q i e = absurd (none-ne-some i e)
slot_some m (suc n) q i e = go (first_slot m n q) refl (same_list (slot_question m n) (key_of q)) refl (λ u. slot_some m n q i u) e
  where
    go : (o : Option ℕ) → first_slot m n q ≡ o → (t : Bool) → same_list (slot_question m n) (key_of q) ≡ t → (o ≡ some i → FirstToAsk m n q i) →
        ◌≡◌ {A = Option ℕ} (elim o [ some i ↦ some i | none ↦ pick t (some n) none ]) (some i) → FirstToAsk m (suc n) q i
    go (some j) u t d ih e = let f : FirstToAsk m n q i = ih e in record { filled = omega (arith, f.filled); asks = f.asks; first = f.first }
    go none u true d ih e =
        let k : n ≡ i = some-injective n i e in
        rw (← k) (record { filled = omega arith; asks = same_list_eq _ _ d; first = slot_none m n q u })
    go none u false d ih e = absurd (none-ne-some i e)

-- ── the inner call's ways out ──
module _ (b : List State) (q : Question) (k : Kept) where
  pub kept_answer : (i : ℕ) → first_slot k.memory k.filled q ≡ some i → ask b q k ≡ record { answer = slot_answer k.memory i; kept = k }
  unfolding ask reply_by
  kept_answer i e = rw e

  pub fresh_kept : first_slot k.memory k.filled q ≡ none → k.filled < slots_lent k.memory →
      ask b q k
      ≡ record {
        answer = work_out b q;
        kept = record { memory = patch k.memory (slot_width * k.filled) (key_of q ++ work_out b q); anew = k.anew + 1; filled = k.filled + 1 };
      }
  unfolding ask reply_by keep
  fresh_kept e h = rw (e, lt-ltb _ _ h, pick_true)

  pub fresh_full : first_slot k.memory k.filled q ≡ none → slots_lent k.memory ≤ k.filled →
      ask b q k ≡ record { answer = work_out b q; kept = record { memory = k.memory; anew = k.anew + 1; filled = k.filled } }
  unfolding ask reply_by keep
  fresh_full e h = rw (e, le-ltb _ _ h, pick_false)

-- ── what it leaves as it was ──
-- the slots lent lie within the memory
pub lent_fits : (m : List ℕ) → slot_width * slots_lent m ≤ length m
unfolding slots_lent
lent_fits m = omega arith

pub lent_same : (m m' : List ℕ) → length m ≡ length m' → slots_lent m ≡ slots_lent m'
unfolding slots_lent
lent_same m m' e = rw e

pub work_out_long : (b : List State) (q : Question) → length (work_out b q) ≡ set_width
unfolding work_out
work_out_long b q = set_of_long b _

pub slot_long : (b : List State) (q : Question) → length q.states ≡ set_width → length (slot_of b q) ≡ slot_width
slot_long b q e = simp (length-append, work_out_long, e)

-- from k to l: no slot filled is altered or dropped, nothing past the slots filled is written
pub record Onward (k l : Kept) : Type 0 where
  pub long : length l.memory ≡ length k.memory
  pub more : k.filled ≤ l.filled
  pub front : take (slot_width * k.filled) l.memory ≡ take (slot_width * k.filled) k.memory
  pub past : drop (slot_width * l.filled) l.memory ≡ drop (slot_width * l.filled) k.memory
  pub fits : k.filled ≤ slots_lent k.memory → l.filled ≤ slots_lent l.memory

pub onward_same : (k : Kept) (n : ℕ) → Onward k (record { memory = k.memory; anew = n; filled = k.filled })
onward_same k n = record { long = refl; more = omega arith; front = refl; past = refl; fits = λ h. h }

drop_further : (m m' : List ℕ) (a c : ℕ) → a ≤ c → drop a m ≡ drop a m' → drop c m ≡ drop c m'
drop_further m m' a c h e = let r : a + (c - a) ≡ c = omega arith in rw (← r) (sym (drop-drop (c - a) a m) ∙ ap (drop (c - a)) e ∙ drop-drop (c - a) a m')

pub onward_then : (k l n : Kept) → Onward k l → Onward l n → Onward k n
onward_then k l n f g =
    let s : slot_width * k.filled ≤ slot_width * l.filled = omega (arith, f.more) in
    record {
      long = g.long ∙ f.long;
      more = omega (arith, f.more, g.more);
      front = sym (take-take _ _ n.memory s) ∙ ap (take (slot_width * k.filled)) g.front ∙ take-take _ _ l.memory s ∙ f.front;
      past = g.past ∙ drop_further l.memory k.memory (slot_width * l.filled) (slot_width * n.filled) (omega (arith, g.more)) f.past;
      fits = λ h. g.fits (f.fits h);
    }

pub ask_onward : (b : List State) (q : Question) (k : Kept) → length q.states ≡ set_width → Onward k (ask b q k).kept
ask_onward b q k e = go (first_slot k.memory k.filled q) refl (ltb k.filled (slots_lent k.memory)) refl
  where
    a : ℕ
    a = slot_width * k.filled

    m' : List ℕ
    m' = patch k.memory (slot_width * k.filled) (slot_of b q)

    written : k.filled < slots_lent k.memory → Onward k (record { memory = m'; anew = k.anew + 1; filled = k.filled + 1 })
    written h =
        let r : a + length (slot_of b q) ≤ length k.memory = rw (slot_long b q e) (omega (arith, lent_fits k.memory)) in
        let l : length m' ≡ length k.memory = patch_long k.memory a (slot_of b q) r in
        record {
          long = l;
          more = omega arith;
          front = patch_front k.memory (slot_of b q) a (omega arith);
          past = patch_past k.memory a (slot_of b q) r (slot_width * (k.filled + 1)) (rw (slot_long b q e) (omega arith));
          fits = λ u. rw (lent_same m' k.memory l) (omega arith);
        }

    go : (o : Option ℕ) → first_slot k.memory k.filled q ≡ o → (t : Bool) → ltb k.filled (slots_lent k.memory) ≡ t → Onward k (ask b q k).kept
    go (some i) u t d = rw (kept_answer b q k i u) (onward_same k k.anew)
    go none u true d = let h : k.filled < slots_lent k.memory = ltb-true _ _ d in rw (fresh_kept b q k u h) (written h)
    go none u false d = rw (fresh_full b q k u (ltb-false _ _ d)) (onward_same k (k.anew + 1))
