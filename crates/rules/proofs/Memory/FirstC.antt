-- Demand 3 for any list of questions, begun with no slot filled: the memory then holds just the first C different ones, in order of first asking,
-- each with its right answer (kept_is), and every reply is the right answer (reply_is). Section "Questions and the memory".
use Rattle.std.specs.Prelude.{◌≡◌, Bool, true, false, ltb, get_or, take}
use Rattle.std.proofs.Math.Path.{refl, sym, ap, ap₂}
use Rattle.std.proofs.Common.{◌∙◌, not-suc-le-zero, arith, length-drop, ltb-true, ltb-false}
use mathlib.Core.List.{List, [], ◌∷◌, ◌++◌, append_assoc, append-nil}
use Rattle.std.proofs.Math.Option.{Option, none, some}
use Prim.Native.Nat.{ℕ, zero, suc, ◌+◌, ◌*◌, ◌≤◌, ◌<◌}
use Rattle.std.proofs.Math.Nat.{add-zero, zero-add}
use Rattle.std.proofs.Math.ListN.{length, drop, length-append}
use Rattle.std.proofs.Math.Seq.{take_all, take_at, drop_at, take-append-le, drop-append-add, drop-drop}
use Rattle.std.proofs.lemmas.List.{drop-append-le}
use Rattle.lists.specs.Choice.{pick}
use Rattle.lists.specs.Parts.{part, patch}
use Rattle.lists.specs.Same.{same_list}
use Rattle.rules.specs.State.{State}
use Rattle.rules.specs.Sets.{set_width, Question, work_out}
use Rattle.rules.specs.Memory.{question_width, slot_width, key_of, slot_question, slot_answer, slots_lent, Kept, first_slot, Reply, ask, FirstToAsk, slot_of, slots_written, ask_all}
use Rattle.rules.specs.Asked.{same_question, is_among, without, different, first_different, not_kept}
use Rattle.rules.proofs.Asked.Different.{among_at, among_none, kept_with, first_none, first_few, first_snoc}
use Rattle.rules.proofs.Memory.Key.{key_long, key_eq}
use Rattle.rules.proofs.Memory.Laws.{slot_some, slot_none, kept_answer, fresh_kept, fresh_full, lent_fits, lent_same, work_out_long, slot_long, Onward, onward_same, onward_then, ask_onward}

pub ask_all_append : (b : List State) (qs rs : List Question) (k : Kept) → ask_all b (qs ++ rs) k ≡ ask_all b rs (ask_all b qs k)
unfolding ask_all
ask_all_append b [] rs k = refl
ask_all_append b (q ∷ qs) rs k = ask_all_append b qs rs (ask b q k).kept

pub ask_all_snoc : (b : List State) (qs : List Question) (q : Question) (k : Kept) → ask_all b (qs ++ q ∷ []) k ≡ (ask b q (ask_all b qs k)).kept
unfolding ask_all
ask_all_snoc b qs q k = ask_all_append b qs (q ∷ []) k

-- ── questions of eight numbers and a label ──
abbrev pub Eight : List Question → Type 0
Eight [] = Unit
Eight (q ∷ qs) = (length q.states ≡ set_width) × Eight qs

pub eight_append : (qs rs : List Question) → Eight qs → Eight rs → Eight (qs ++ rs)
eight_append [] rs e f = f
eight_append (q ∷ qs) rs e f = (e.0, eight_append qs rs e.1 f)

eight_without : (q : Question) (l : List Question) → Eight l → Eight (without q l)
unfolding without
eight_without q [] e = tt
eight_without q (p ∷ l) e = go (same_question p q) (eight_without q l e.1)
  where
    go : (t : Bool) → Eight (without q l) → Eight (elim t [ true ↦ without q l | false ↦ p ∷ without q l ])
    go true ih = ih
    go false ih = (e.0, ih)

eight_different : (qs : List Question) → Eight qs → Eight (different qs)
unfolding different
eight_different [] e = tt
eight_different (q ∷ qs) e = (e.0, eight_without q (different qs) (eight_different qs e.1))

eight_take : (n : ℕ) (l : List Question) → Eight l → Eight (take n l)
eight_take zero l e = tt
eight_take (suc n) [] e = tt
eight_take (suc n) (p ∷ l) e = (e.0, eight_take n l e.1)

pub eight_first : (C : ℕ) (qs : List Question) → Eight qs → Eight (first_different C qs)
unfolding first_different
eight_first C qs e = eight_take C (different qs) (eight_different qs e)

pub ask_all_onward : (b : List State) (qs : List Question) (k : Kept) → Eight qs → Onward k (ask_all b qs k)
unfolding ask_all
ask_all_onward b [] k e = onward_same k k.anew
ask_all_onward b (q ∷ qs) k e = onward_then k (ask b q k).kept _ (ask_onward b q k e.0) (ask_all_onward b qs (ask b q k).kept e.1)

-- no slot filled
abbrev pub at_start : List ℕ → Kept
at_start m = record { memory = m; anew = 0; filled = 0 }

-- what is kept where the slots filled are those of the questions ks and the rest is as lent
abbrev pub holding : List State → List ℕ → List Question → ℕ → Kept
holding b m ks n = record { memory = slots_written b ks ++ drop (slot_width * length ks) m; anew = n; filled = length ks }

eight_at : (ks : List Question) (i : ℕ) (d : Question) → Eight ks → i < length ks → length (get_or ks i d).states ≡ set_width
eight_at [] i d e h = absurd (not-suc-le-zero h)
eight_at (k ∷ ks) zero d e h = e.0
eight_at (k ∷ ks) (suc i) d e h = eight_at ks i d e.1 (omega arith)

module _ (b : List State) where
  pub written_long : (ks : List Question) → Eight ks → length (slots_written b ks) ≡ slot_width * length ks
  unfolding slots_written
  written_long [] e = refl
  written_long (k ∷ ks) e = rw (length-append, slot_long b k e.0, written_long ks e.1) (omega arith)

  written_snoc : (ks : List Question) (q : Question) → slots_written b (ks ++ q ∷ []) ≡ slots_written b ks ++ slot_of b q
  unfolding slots_written
  written_snoc [] q = append-nil (slot_of b q)
  written_snoc (k ∷ ks) q = ap (λ l. slot_of b k ++ l) (written_snoc ks q) ∙ sym (append_assoc (slot_of b k) _ _)

  -- slot i of the slots written is that of question i
  written_part : (ks : List Question) (rest : List ℕ) (i a n : ℕ) (d : Question) → Eight ks → i < length ks → a + n ≤ slot_width →
      part (slots_written b ks ++ rest) (slot_width * i + a) n ≡ part (slot_of b (get_or ks i d)) a n
  unfolding slots_written part
  written_part [] rest i a n d e h f = absurd (not-suc-le-zero h)
  written_part (k ∷ ks) rest zero a n d e h f =
      rw (append_assoc (slot_of b k) (slots_written b ks) rest, zero-add a)
      (ap (take n) (drop-append-le a (slot_of b k) _ (rw (slot_long b k e.0) (omega arith)))
      ∙ take-append-le n (drop a (slot_of b k)) _ (rw (length-drop, slot_long b k e.0) (omega arith)))
  written_part (k ∷ ks) rest (suc i) a n d e h f =
      let s : slot_width * suc i + a ≡ length (slot_of b k) + (slot_width * i + a) = rw (slot_long b k e.0) (omega arith) in
      rw (append_assoc (slot_of b k) (slots_written b ks) rest, s)
      (ap (take n) (drop-append-add (slot_of b k) _ (slot_width * i + a)) ∙ written_part ks rest i a n d e.1 (omega arith) f)

  pub written_question : (ks : List Question) (rest : List ℕ) (i : ℕ) (d : Question) → Eight ks → i < length ks → slot_question (slots_written b ks ++ rest) i ≡ key_of (get_or ks i d)
  unfolding slot_question part
  written_question ks rest i d e h =
      rw add-zero at (written_part ks rest i 0 question_width d e h (omega arith))
      ∙ take_at (key_of (get_or ks i d)) _ question_width (key_long (get_or ks i d) (eight_at ks i d e h))

  pub written_answer : (ks : List Question) (rest : List ℕ) (i : ℕ) (d : Question) → Eight ks → i < length ks → slot_answer (slots_written b ks ++ rest) i ≡ work_out b (get_or ks i d)
  unfolding slot_answer part
  written_answer ks rest i d e h =
      written_part ks rest i question_width set_width d e h (omega arith)
      ∙ ap (take set_width) (drop_at (key_of (get_or ks i d)) _ question_width (key_long (get_or ks i d) (eight_at ks i d e h)))
      ∙ take_all set_width (work_out b (get_or ks i d)) (rw work_out_long (omega arith))

  -- one slot more
  written_patch : (m : List ℕ) (ks : List Question) (q : Question) → Eight ks → length q.states ≡ set_width →
      patch (slots_written b ks ++ drop (slot_width * length ks) m) (slot_width * length ks) (slot_of b q)
      ≡ slots_written b (ks ++ q ∷ []) ++ drop (slot_width * length (ks ++ q ∷ [])) m
  unfolding patch
  written_patch m ks q e f =
      let a : length (slots_written b ks) ≡ slot_width * length ks = written_long ks e in
      let c : slot_width * length ks + slot_width ≡ slot_width * length (ks ++ q ∷ []) = rw length-append (omega arith) in
      rw (
        take_at (slots_written b ks) (drop (slot_width * length ks) m) (slot_width * length ks) a,
        drop_at (slots_written b ks) (drop (slot_width * length ks) m) (slot_width * length ks) a,
        slot_long b q f,
        drop-drop slot_width (slot_width * length ks) m,
        c,
        written_snoc ks q,
      ) (sym (append_assoc (slots_written b ks) (slot_of b q) _))

module _ (b : List State) (m : List ℕ) where
  -- the right answer, and right slots with the question among them where there is room
  abbrev answered : List Question → Question → ℕ → ℕ → Reply
  answered ks q n C = record { answer = work_out b q; kept = holding b m (kept_with C ks q) n }

  -- the inner call on right slots
  ask_holding : (ks : List Question) (n : ℕ) (q : Question) → Eight ks → length q.states ≡ set_width → length ks ≤ slots_lent m →
      ask b q (holding b m ks n) ≡ answered ks q (pick (is_among q ks) n (n + 1)) (slots_lent m)
  unfolding pick
  ask_holding ks n q e f h = go (first_slot M (length ks) q) refl
    where
      M : List ℕ
      M = slots_written b ks ++ drop (slot_width * length ks) m

      lent : slots_lent M ≡ slots_lent m
      lent = lent_same M m (rw (length-append, written_long b ks e, length-drop) (omega (arith, lent_fits m)))

      fresh : first_slot M (length ks) q ≡ none → (t : Bool) → ltb (length ks) (slots_lent m) ≡ t →
          ask b q (holding b m ks n) ≡ record { answer = work_out b q; kept = holding b m (pick t (ks ++ q ∷ []) ks) (n + 1) }
      fresh u true d =
          let c : length (ks ++ q ∷ []) ≡ length ks + 1 = length-append ks (q ∷ []) in
          fresh_kept b q (holding b m ks n) u (rw lent (ltb-true _ _ d)) ∙ rw (written_patch b m ks q e f, c)
      fresh u false d = fresh_full b q (holding b m ks n) u (rw lent (ltb-false _ _ d))

      go : (o : Option ℕ) → first_slot M (length ks) q ≡ o → ask b q (holding b m ks n) ≡ answered ks q (pick (is_among q ks) n (n + 1)) (slots_lent m)
      go (some i) u =
          let s : FirstToAsk M (length ks) q i = slot_some M (length ks) q i u in
          let k : get_or ks i q ≡ q = key_eq _ _ (sym (written_question b ks _ i q e s.filled) ∙ s.asks) in
          let g : is_among q ks ≡ true = rw k at (among_at ks i q s.filled) in
          let w : slot_answer M i ≡ work_out b q = written_answer b ks _ i q e s.filled ∙ ap (work_out b) k in
          kept_answer b q (holding b m ks n) i u ∙ rw (w, g)
      go none u =
          let g : is_among q ks ≡ false
          = among_none ks q q (λ i l. ap (λ w. same_list w (key_of q)) (sym (written_question b ks _ i q e l)) ∙ slot_none M (length ks) q u i l) in
          rw g (fresh u (ltb (length ks) (slots_lent m)) refl)

  -- from the first C different of qs to those of qs and q
  ask_first : (qs : List Question) (n : ℕ) (q : Question) → Eight qs → length q.states ≡ set_width →
      ask b q (holding b m (first_different (slots_lent m) qs) n)
      ≡ record { answer = work_out b q; kept = holding b m (first_different (slots_lent m) (qs ++ q ∷ [])) (pick (is_among q (first_different (slots_lent m) qs)) n (n + 1)) }
  ask_first qs n q e f =
      rw (first_snoc (slots_lent m) qs q) (ask_holding (first_different (slots_lent m) qs) n q (eight_first (slots_lent m) qs e) f (first_few (slots_lent m) qs))

  kept_from : (earlier qs : List Question) (n : ℕ) → Eight earlier → Eight qs →
      ask_all b qs (holding b m (first_different (slots_lent m) earlier) n)
      ≡ holding b m (first_different (slots_lent m) (earlier ++ qs)) (n + not_kept (slots_lent m) earlier qs)
  unfolding ask_all not_kept pick
  kept_from earlier [] n e f = rw (append-nil, add-zero)
  kept_from earlier (q ∷ qs) n e f =
      ap (λ r. ask_all b qs r.kept) (ask_first earlier n q e f.0)
      ∙ kept_from (earlier ++ q ∷ []) qs _ (eight_append earlier (q ∷ []) e (f.0, tt)) f.1
      ∙ ap₂ (holding b m) (ap (first_different (slots_lent m)) (append_assoc earlier (q ∷ []) qs)) (count (is_among q (first_different (slots_lent m) earlier)))
    where
      rest : ℕ
      rest = not_kept (slots_lent m) (earlier ++ q ∷ []) qs

      count : (t : Bool) → pick t n (n + 1) + rest ≡ n + (elim t [ true ↦ rest | false ↦ suc rest ])
      count true = refl
      count false = omega arith

  -- the first C different questions in their slots, memory past them as lent, and the counts
  pub kept_is : (qs : List Question) → Eight qs → ask_all b qs (at_start m) ≡ holding b m (first_different (slots_lent m) qs) (not_kept (slots_lent m) [] qs)
  unfolding slots_written
  kept_is qs e = rw (first_none, zero-add) at (kept_from [] qs 0 tt e)

  -- the reply after any questions is the right answer
  pub reply_is : (qs : List Question) (q : Question) → Eight qs → length q.states ≡ set_width → (ask b q (ask_all b qs (at_start m))).answer ≡ work_out b q
  reply_is qs q e f = ap (λ k. (ask b q k).answer) (kept_is qs e) ∙ ap (λ r. r.answer) (ask_first qs _ q e f)

-- so no reply depends on the memory lent: its count, or its earlier contents
pub any_memory : (b : List State) (m m' : List ℕ) (qs : List Question) (q : Question) → Eight qs → length q.states ≡ set_width →
    (ask b q (ask_all b qs (at_start m))).answer ≡ (ask b q (ask_all b qs (at_start m'))).answer
any_memory b m m' qs q e f = reply_is b m qs q e f ∙ sym (reply_is b m' qs q e f)
