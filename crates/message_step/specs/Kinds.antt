-- What one event does to the reader's state, the workspace and the memory, by its kind byte, and a law for each way
-- out of the code.
use Rattle.std.specs.Prelude.{◌≡◌, ℕ, zero, suc, ◌+◌, ◌<◌, eqb, get_or}
use Rattle.std.proofs.Common.{sym, ◌∙◌, ap, arith}
use mathlib.Core.List.{List}
use borrow.Author.Tests.{eq-eqb, ne_eqb}
use Rattle.lists.specs.Choice.{pick}
use Rattle.lists.specs.Parts.{part}
use Rattle.lists.specs.Choice.Laws.{pick_cases}
use Rattle.rules.specs.Bytes.{le2}
use Rattle.rules.specs.Book.{Meaning}
use Rattle.rules.specs.Message.{start_refusal}
use Rattle.memory_index.specs.Index.{Indexed}
use Rattle.message_levels.specs.Level.{label_in, stage_in}
use Rattle.message_texts.specs.Texts.{held_by}
use Rattle.message_events.specs.declared.Reader.{Reader}
use Rattle.message_events.specs.Meant.{Stepped, refused_at}
use Rattle.message_events.specs.Step.{past, start_by, start_for, start_of, text_step, text_for, text_of, end_of, IndexedNext}

abbrev pub beside : Stepped × List ℕ → List ℕ → Stepped × List ℕ × List ℕ
beside r m = (r.0, r.1, m)

unfoldable pub step_of : List ℕ → Meaning → List ℕ → List ℕ → Reader → Stepped × List ℕ × List ℕ
step_of body b ws m s =
    pick (eqb (get_or body s.place 0) 1) (beside (start_of body ws s) m)
    (pick (eqb (get_or body s.place 0) 2) (beside (text_of body b ws s) m)
    (pick (eqb (get_or body s.place 0) 3) (end_of body b ws m s)
    (refused_at 21 s.place, ws, m)))

-- neither a start nor a text fills a slot
start_fills : (body ws : List ℕ) (s : Reader) (x m : List ℕ) → Indexed x m s.counts.filled → IndexedNext x m s.counts.filled (start_of body ws s).0
unfolding start_of start_for pick
start_fills body ws s x m i =
    pick_cases (λ (y : Stepped × List ℕ). IndexedNext x m s.counts.filled y.0) (past body s 3) (λ e. i)
    (λ e. go (start_refusal s.depth (label_in ws s.depth) (stage_in ws s.depth) (le2 body (s.place + 1))))
  where
    go : (n : ℕ) → IndexedNext x m s.counts.filled (start_by n (le2 body (s.place + 1)) ws s).0
    go zero = unfold start_by in i
    go (suc n) = unfold start_by in i

text_fills : (body : List ℕ) (b : Meaning) (ws : List ℕ) (s : Reader) (x m : List ℕ) → Indexed x m s.counts.filled → IndexedNext x m s.counts.filled (text_of body b ws s).0
unfolding text_of text_for
text_fills body b ws s x m i =
    let P : Stepped × List ℕ → Type 0 = λ y. IndexedNext x m s.counts.filled y.0 in
    let k : ℕ = get_or body (s.place + 1) 0 in
    pick_cases P (past body s 2) (λ e. i)
    (λ e. pick_cases P (past body s (k + 2)) (λ f. i) (λ f. go k (held_by b (part body (s.place + 2) k) ws s.depth).0))
  where
    go : (k n : ℕ) → IndexedNext x m s.counts.filled (text_step s k n)
    go k zero = i
    go k (suc n) = i

is_not : {k : ℕ} (i j : ℕ) → k ≡ j → i < j → k ≡ i → ⊥
is_not i j e h f = omega arith

module _ (body : List ℕ) (b : Meaning) (ws m : List ℕ) (s : Reader) (kind : ℕ) (read : kind ≡ get_or body s.place 0) where
  pub step_start : (r : Stepped) (w : List ℕ) → kind ≡ 1 → (r, w) ≡ start_of body ws s → (r, w, m) ≡ step_of body b ws m s
  unfolding step_of pick
  step_start r w e g = simp (eq-eqb _ _ (sym read ∙ e)) (ap (λ (y : Stepped × List ℕ). beside y m) g)

  pub step_text : (r : Stepped) (w : List ℕ) → kind ≡ 2 → (r, w) ≡ text_of body b ws s → (r, w, m) ≡ step_of body b ws m s
  unfolding step_of pick
  step_text r w e g = simp (ne_eqb _ _ (is_not 1 2 (sym read ∙ e) (omega arith)), eq-eqb _ _ (sym read ∙ e)) (ap (λ (y : Stepped × List ℕ). beside y m) g)

  pub step_end : (r : Stepped) (w v : List ℕ) → kind ≡ 3 → (r, w, v) ≡ end_of body b ws m s → (r, w, v) ≡ step_of body b ws m s
  unfolding step_of pick
  step_end r w v e g = simp (ne_eqb _ _ (is_not 1 3 (sym read ∙ e) (omega arith)), ne_eqb _ _ (is_not 2 3 (sym read ∙ e) (omega arith)), eq-eqb _ _ (sym read ∙ e)) g

  pub step_none : (kind ≡ 1 → ⊥) → (kind ≡ 2 → ⊥) → (kind ≡ 3 → ⊥) → (refused_at 21 s.place, ws, m) ≡ step_of body b ws m s
  unfolding step_of pick
  step_none one two e = simp (ne_eqb _ _ (rw read at one), ne_eqb _ _ (rw read at two), ne_eqb _ _ (rw read at e))

pub start_indexed : (body ws : List ℕ) (s : Reader) (x m : List ℕ) (r : Stepped) (w : List ℕ) → (r, w) ≡ start_of body ws s → Indexed x m s.counts.filled → IndexedNext x m s.counts.filled r
start_indexed body ws s x m r w e i = let d : (start_of body ws s).0 ≡ r = ap (λ (y : Stepped × List ℕ). y.0) (sym e) in rw d at (start_fills body ws s x m i)

pub text_indexed : (body : List ℕ) (b : Meaning) (ws : List ℕ) (s : Reader) (x m : List ℕ) (r : Stepped) (w : List ℕ) → (r, w) ≡ text_of body b ws s →
    Indexed x m s.counts.filled → IndexedNext x m s.counts.filled r
text_indexed body b ws s x m r w e i = let d : (text_of body b ws s).0 ≡ r = ap (λ (y : Stepped × List ℕ). y.0) (sym e) in rw d at (text_fills body b ws s x m i)
