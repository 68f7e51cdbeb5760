-- The laws that the inner call is proved by: one for each way through it. Then what a caller's counts need of any answer.
use Rattle.std.specs.Prelude.{◌≡◌, refl, Option as Answer, None, Some, Bool, true, false, List, ℕ, ◌+◌, ◌≤◌, ◌<◌, ltb, length}
use Rattle.std.proofs.Math.Path.{sym, ap}
use Rattle.std.proofs.Common.{◌∙◌, arith, ltb-true, ltb-false}
use Rattle.std.proofs.Math.Option.{Option, none, some}
use Rattle.rules.specs.State.{State}
use Rattle.rules.specs.Sets.{Question, work_out}
use Rattle.rules.specs.Memory.{question_width, question_in, slot_answer, slots_lent, Kept, first_slot, Reply, ask}
use Rattle.rules.proofs.Memory.Key.{key_of_lem}
use Rattle.rules.proofs.Memory.Laws.{slot_some, kept_answer, fresh_kept, fresh_full}
use Rattle.rules.specs.Pass.{Carried, ask_next}
use Rattle.memory_slots.specs.Slots.{HasSlot, with_slot}
use Rattle.memory_index.specs.Index.{meant, Indexed}
use Rattle.memory_ask.specs.declared.Counts.{Counts}
use Rattle.memory_ask.specs.Ask.{carried_in, replied}

-- what was found
module _ (m : List ℕ) (n : ℕ) (q : Question) (r : Answer ℕ) (found : meant r ≡ first_slot m n q) where
  pub found_some : (i : ℕ) → r ≡ Some i → first_slot m n q ≡ some i
  unfolding meant
  found_some i d = sym found ∙ ap meant d

  pub found_none : r ≡ None → first_slot m n q ≡ none
  unfolding meant
  found_none d = sym found ∙ ap meant d

  -- it is one of those filled
  pub found_room : (x : List ℕ) (i : ℕ) → Indexed x m n → r ≡ Some i → HasSlot m i
  found_room x i g d = omega (arith, (slot_some m n q i (found_some i d)).filled, g.fits)

pub worked_out : (b : List State) (w l s : List ℕ) (x : ℕ) → l ≡ work_out b (record { states = s; label = x }) → s ≡ (question_in w).states
    → x ≡ (question_in w).label → l ≡ work_out b (question_in w)
worked_out b w l s x e f g = rw (f, g) at e

module _ (b : List State) (m w l : List ℕ) (c : Counts) where
  -- a reply of the inner call, with the question counted
  abbrev counted : Reply → List ℕ × Carried
  counted r = (r.answer, record { asked = c.asked + 1; kept = r.kept })

  pub ask_found : (r : Answer ℕ) (i : ℕ) → meant r ≡ first_slot m c.filled (question_in w) → r ≡ Some i → l ≡ slot_answer m i
      → replied l m (record { asked = c.asked + 1; anew = c.anew; filled = c.filled }) ≡ ask_next b (question_in w) (carried_in m c)
  ask_found r i f d e =
      rw e (sym (ap counted (kept_answer b (question_in w) (carried_in m c).kept i (found_some m c.filled (question_in w) r f i d))))

  module _ (s : ℕ) (lent : s ≡ slots_lent m) (worked : l ≡ work_out b (question_in w)) (new : first_slot m c.filled (question_in w) ≡ none) where
    pub anew_full : s ≤ c.filled
        → replied l m (record { asked = c.asked + 1; anew = c.anew + 1; filled = c.filled }) ≡ ask_next b (question_in w) (carried_in m c)
    anew_full h = rw worked (sym (ap counted (fresh_full b (question_in w) (carried_in m c).kept new (omega arith))))

    pub anew_kept : (m' : List ℕ) → c.filled < s → length w ≡ question_width → m' ≡ with_slot m c.filled w l
        → replied l m' (record { asked = c.asked + 1; anew = c.anew + 1; filled = c.filled + 1 }) ≡ ask_next b (question_in w) (carried_in m c)
    anew_kept m' h long e =
        let q : Question = question_in w in
        let kept : List ℕ → Reply
        = λ n. record { answer = work_out b q; kept = record { memory = with_slot m c.filled n (work_out b q); anew = c.anew + 1; filled = c.filled + 1 } } in
        rw (e, worked) (ap (λ n. counted (kept n)) (sym (key_of_lem w long)) ∙ sym (ap counted (fresh_kept b q (carried_in m c).kept new (omega arith))))

-- ── any answer ──
module _ (b : List State) (q : Question) (k : Kept) where
  -- the count worked out anew rises by one at most
  pub ask_anew : (ask b q k).kept.anew ≤ k.anew + 1
  ask_anew = go (first_slot k.memory k.filled q) refl (ltb k.filled (slots_lent k.memory)) refl
    where
      go : (o : Option ℕ) → first_slot k.memory k.filled q ≡ o → (t : Bool) → ltb k.filled (slots_lent k.memory) ≡ t
          → (ask b q k).kept.anew ≤ k.anew + 1
      go (some i) u t d = rw (kept_answer b q k i u) (omega arith)
      go none u true d = rw (fresh_kept b q k u (ltb-true _ _ d)) (omega arith)
      go none u false d = rw (fresh_full b q k u (ltb-false _ _ d)) (omega arith)
