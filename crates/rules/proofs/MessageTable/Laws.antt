-- The reader gives at each place the number that the table says, and the place is where the table says it.
use Rattle.std.specs.Prelude.{◌≡◌, Bool, ◌||◌, ◌&&◌, ℕ, suc, ◌+◌, ◌*◌, length, take}
use Rattle.std.proofs.Math.Path.{refl, sym, subst}
use Rattle.std.proofs.Common.{◌∙◌, ap, arith}
use Rattle.std.proofs.Math.Bool.{true, false, not, or-true, or-false, true≢false}
use mathlib.Core.List.{List, [], ◌∷◌, map}
use Rattle.std.proofs.Math.Dec.{eqb, ltb, leb}
use borrow.Author.Tests.{eqb-true, lt-ltb, le-ltb, leb-true, leb-false, eq-eqb, ne_eqb}
use Rattle.lists.specs.Choice.{pick}
use Rattle.lists.specs.Parts.{part}
use Rattle.lists.specs.Checks.{Check, first_of}
use Rattle.lists.specs.Checks.Laws.{first_zero}
use Rattle.rules.specs.State.{attribute}
use Rattle.rules.specs.Book.{Meaning, out_of_range}
use Rattle.rules.specs.Message.{Event, start, text, end, First, bad, got, first_event, Level, Reading, Keeper, start_astray, start_refusal, text_refusal, end_refusal, last_refusal, stage_after, on, shut_into, on_event, begin}
use Rattle.rules.proofs.Message.Events.{size_of, Follows, unless_on, first_kind}
use Rattle.rules.specs.MessageTable.{Open, Opens, root_alone, closed, opens_by, opens_after, at_top, start_amiss, text_amiss, end_amiss, message_rows}

-- ── the order of the table ──
pub rows_in_order : (b : Meaning) (o : Opens) (rest : List ℕ) →
    map (λ (c : Check). c.number) (message_rows b o rest) ≡ 21 ∷ 22 ∷ 23 ∷ 24 ∷ 25 ∷ 26 ∷ 27 ∷ 28 ∷ 29 ∷ []
rows_in_order b o rest = refl

-- ── a level of the reader is an open start ──
abbrev pub stage_for : Bool → Bool → ℕ
stage_for child said = pick said 2 (pick child 1 0)

pub record Alike {P : Type 0} (l : Level P) (o : Open) : Type 0 where
  pub label : l.label ≡ o.label
  pub stage : l.stage ≡ stage_for o.child o.said
  pub one : o.child && o.said ≡ false

abbrev pub AllAlike : {P : Type 0} → List (Level P) → List Open → Type 0
AllAlike [] [] = Unit {0}
AllAlike [] (o ∷ os) = ⊥
AllAlike (l ∷ ls) [] = ⊥
AllAlike (l ∷ ls) (o ∷ os) = Alike l o × AllAlike ls os

pub record Stands {P S : Type 0} (r : Reading P S) (o : Opens) : Type 0 where
  pub top : Alike r.top o.top
  pub under : AllAlike r.under o.under

-- ── the tests of the two, one by one ──
astray_bools : (al ax t c s : Bool) → c && s ≡ false →
    (ax && (t || c || s)) || (not ax && t && c) || al || (not ax && s) ≡ al || (ax && (t || not (not (s || c)))) || (not ax && (s || (t && c)))
astray_bools true true true true true e = absurd (true≢false e)
astray_bools true true true true false e = refl
astray_bools true true true false true e = refl
astray_bools true true true false false e = refl
astray_bools true true false true true e = absurd (true≢false e)
astray_bools true true false true false e = refl
astray_bools true true false false true e = refl
astray_bools true true false false false e = refl
astray_bools true false true true true e = absurd (true≢false e)
astray_bools true false true true false e = refl
astray_bools true false true false true e = refl
astray_bools true false true false false e = refl
astray_bools true false false true true e = absurd (true≢false e)
astray_bools true false false true false e = refl
astray_bools true false false false true e = refl
astray_bools true false false false false e = refl
astray_bools false true true true true e = absurd (true≢false e)
astray_bools false true true true false e = refl
astray_bools false true true false true e = refl
astray_bools false true true false false e = refl
astray_bools false true false true true e = absurd (true≢false e)
astray_bools false true false true false e = refl
astray_bools false true false false true e = refl
astray_bools false true false false false e = refl
astray_bools false false true true true e = absurd (true≢false e)
astray_bools false false true true false e = refl
astray_bools false false true false true e = refl
astray_bools false false true false false e = refl
astray_bools false false false true true e = absurd (true≢false e)
astray_bools false false false true false e = refl
astray_bools false false false false true e = refl
astray_bools false false false false false e = refl

text_bools : (t c s : Bool) → t || s || c ≡ t || not (not (s || c))
text_bools true c s = refl
text_bools false c true = refl
text_bools false true false = refl
text_bools false false false = refl

plain_is : (c s : Bool) → eqb (stage_for c s) 0 ≡ not (s || c)
unfolding pick
plain_is c true = refl
plain_is true false = refl
plain_is false false = refl

child_is : (c s : Bool) → c && s ≡ false → eqb (stage_for c s) 1 ≡ c
unfolding pick
child_is true true e = absurd (true≢false e)
child_is false true e = refl
child_is true false e = refl
child_is false false e = refl

said_is : (c s : Bool) → eqb (stage_for c s) 2 ≡ s
unfolding pick
said_is c true = refl
said_is true false = refl
said_is false false = refl

depth_same : {P : Type 0} (ls : List (Level P)) (os : List Open) → AllAlike ls os → length ls ≡ length os
depth_same [] [] a = refl
depth_same [] (o ∷ os) a = absurd a
depth_same (l ∷ ls) [] a = absurd a
depth_same (l ∷ ls) (o ∷ os) a = ap suc (depth_same ls os a.1)

top_same : {P : Type 0} (ls : List (Level P)) (os : List Open) → AllAlike ls os → eqb (length ls) 0 ≡ at_top os
top_same [] [] a = refl
top_same [] (o ∷ os) a = absurd a
top_same (l ∷ ls) [] a = absurd a
top_same (l ∷ ls) (o ∷ os) a = ne_eqb (suc (length ls)) 0 (λ e. omega arith)

-- ── the number at a place, by the reader; B: what the book means to the message ──
abbrev pub event_number : Meaning → {P S : Type 0} → Reading P S → Event → ℕ
event_number B r (start x) = start_refusal (length r.under) r.top.label r.top.stage x
event_number B r (text s) = text_refusal (length r.under) r.top.stage (out_of_range B s)
event_number B r (end x) = end_refusal (length r.under) r.top.label x

abbrev pub number_first : Meaning → {P S : Type 0} → Reading P S → First → ℕ
number_first B r (bad e) = e
number_first B r (got ev size) = event_number B r ev

abbrev pub number_at : Meaning → {P S : Type 0} → Reading P S → List ℕ → ℕ
number_at B r [] = last_refusal (length r.under) r.top.stage
number_at B r (c ∷ cs) = number_first B r (first_event c cs)

-- it is the table's
module _ {P S : Type 0} (r : Reading P S) (o : Opens) (st : Stands r o) where
  start_same : (x : ℕ) → start_amiss o x ≡ start_astray (length r.under) r.top.label r.top.stage x
  start_same x =
      astray_bools (attribute o.top.label) (attribute x) (at_top o.under) o.top.child o.top.said st.top.one
      ∙ sym (rw (top_same r.under o.under st.under, st.top.label, st.top.stage, plain_is o.top.child o.top.said, said_is o.top.child o.top.said, child_is o.top.child o.top.said st.top.one) refl)

  text_same : text_amiss o ≡ eqb (length r.under) 0 || not (eqb r.top.stage 0)
  text_same =
      text_bools (at_top o.under) o.top.child o.top.said
      ∙ sym (rw (top_same r.under o.under st.under, st.top.stage, plain_is o.top.child o.top.said) refl)

  end_same : (x : ℕ) → end_amiss o x ≡ eqb (length r.under) 0 || not (eqb x r.top.label)
  end_same x = sym (rw (top_same r.under o.under st.under, st.top.label) refl)

module _ (B : Meaning) {P S : Type 0} (r : Reading P S) (o : Opens) (st : Stands r o) where
  row_start : (cs : List ℕ) → first_of (message_rows B o (1 ∷ cs)) ≡ number_at B r (1 ∷ cs)
  unfolding first_of first_event start_refusal pick
  row_start [] = refl
  row_start (a ∷ []) = refl
  row_start (a ∷ b ∷ z) =
      let long : ltb (suc (suc (suc (length z)))) 3 ≡ false = le-ltb (suc (suc (suc (length z)))) 3 (omega arith) in
      rw (long, start_same r o st (a + b * 256), depth_same r.under o.under st.under) refl

  row_end : (cs : List ℕ) → first_of (message_rows B o (3 ∷ cs)) ≡ number_at B r (3 ∷ cs)
  unfolding first_of first_event end_refusal pick
  row_end [] = refl
  row_end (a ∷ []) = refl
  row_end (a ∷ b ∷ z) =
      let long : ltb (suc (suc (suc (length z)))) 3 ≡ false = le-ltb (suc (suc (suc (length z)))) 3 (omega arith) in
      rw (long, end_same r o st (a + b * 256)) refl

  row_text : (cs : List ℕ) → first_of (message_rows B o (2 ∷ cs)) ≡ number_at B r (2 ∷ cs)
  unfolding first_of first_event text_refusal pick part
  row_text [] = refl
  row_text (n ∷ z) = go (leb n (length z)) refl
    where
      go : (t : Bool) → leb n (length z) ≡ t → first_of (message_rows B o (2 ∷ n ∷ z)) ≡ number_first B r (elim t [ true ↦ got (text (take n z)) (2 + n) | false ↦ bad 22 ])
      go true e =
          let long : ltb (suc (suc (length z))) (2 + n) ≡ false = le-ltb (suc (suc (length z))) (2 + n) (omega (arith, leb-true n (length z) e)) in
          rw (long, text_same r o st) refl
      go false e =
          let short : ltb (suc (suc (length z))) (2 + n) ≡ true = lt-ltb (suc (suc (length z))) (2 + n) (omega (arith, leb-false n (length z) e)) in
          rw short refl

  row_none : (c : ℕ) (cs : List ℕ) → eqb c 1 ≡ false → eqb c 2 ≡ false → eqb c 3 ≡ false → first_of (message_rows B o (c ∷ cs)) ≡ number_at B r (c ∷ cs)
  unfolding first_of
  row_none c cs p q w =
      let is_not : (k : ℕ) → eqb c k ≡ false → c ≡ k → ⊥ = λ k f e. true≢false (sym (eq-eqb c k e) ∙ f) in
      let table : first_of (message_rows B o (c ∷ cs)) ≡ 21 = rw (p, q, w) refl in
      table ∙ sym (ap (number_first B r) (first_kind c cs (is_not 1 p) (is_not 2 q) (is_not 3 w)))

  row_ended : first_of (message_rows B o []) ≡ number_at B r []
  unfolding first_of last_refusal pick
  row_ended = sym (rw (top_same r.under o.under st.under, st.top.stage, child_is o.top.child o.top.said st.top.one) refl)

  pub number_is : (rest : List ℕ) → first_of (message_rows B o rest) ≡ number_at B r rest
  number_is [] = row_ended
  number_is (c ∷ cs) = go (eqb c 1) (eqb c 2) (eqb c 3) refl refl refl
    where
      go : (t u v : Bool) → eqb c 1 ≡ t → eqb c 2 ≡ u → eqb c 3 ≡ v → first_of (message_rows B o (c ∷ cs)) ≡ number_at B r (c ∷ cs)
      go true u v p q w = rw (eqb-true c 1 p) (row_start cs)
      go false true v p q w = rw (eqb-true c 2 q) (row_text cs)
      go false false true p q w = rw (eqb-true c 3 w) (row_end cs)
      go false false false p q w = row_none c cs p q w

-- ── events that are passed keep the two together ──
and_no : (c : Bool) → c && false ≡ false
and_no true = refl
and_no false = refl

said_not : (al t c s : Bool) → (false && (t || c || s)) || (not false && t && c) || al || (not false && s) ≡ false → s ≡ false
said_not true true true true e = absurd (true≢false e)
said_not true true false true e = absurd (true≢false e)
said_not true false true true e = absurd (true≢false e)
said_not true false false true e = absurd (true≢false e)
said_not false true true true e = absurd (true≢false e)
said_not false true false true e = absurd (true≢false e)
said_not false false true true e = absurd (true≢false e)
said_not false false false true e = absurd (true≢false e)
said_not al t c false e = refl

child_not : (t c s : Bool) → t || s || c ≡ false → c ≡ false
child_not true c s e = absurd (true≢false e)
child_not false c true e = absurd (true≢false e)
child_not false true false e = absurd (true≢false e)
child_not false false false e = refl

module _ {P S : Type 0} (how : Keeper P S) where
  pub stands_begin : (s : S) → Stands (begin how s) root_alone
  unfolding pick
  stands_begin s = record { top = record { label = refl; stage = refl; one = refl }; under = tt }

  stands_start : (r r' : Reading P S) (o : Opens) (size x : ℕ) → Stands r o → on_event how r size (start x) ≡ on r' → Stands r' (opens_by o (start x))
  unfolding pick start_refusal
  stands_start r r' o size x st e =
      let u = unless_on (start_refusal (length r.under) r.top.label r.top.stage x) _ r' e in
      subst (λ q. Stands q (opens_by o (start x))) u.1 (record {
        top = record { label = refl; stage = refl; one = refl };
        under = (parent u.0 (attribute x) refl, st.under);
      })
    where
      amiss : start_refusal (length r.under) r.top.label r.top.stage x ≡ 0 → start_amiss o x ≡ false
      amiss fine = start_same r o st x ∙ (first_zero 24 _ _ (omega arith) (first_zero 23 _ _ (omega arith) fine).1).0

      parent : start_refusal (length r.under) r.top.label r.top.stage x ≡ 0 → (a : Bool) → attribute x ≡ a →
          Alike (record { label = r.top.label; stage = stage_after (attribute x) r.top.stage; held = r.top.held })
          (record { label = o.top.label; child = o.top.child || not (attribute x); said = o.top.said })
      parent fine true ea = record {
        label = st.top.label;
        stage = rw (ea, or-false o.top.child) st.top.stage;
        one = rw (ea, or-false o.top.child) st.top.one;
      }
      parent fine false ea =
          let s : o.top.said ≡ false = said_not (attribute o.top.label) (at_top o.under) o.top.child o.top.said (rw ea at (amiss fine)) in
          record {
            label = st.top.label;
            stage = rw (ea, s, or-true o.top.child) refl;
            one = rw s (and_no (o.top.child || not (attribute x)));
          }

  stands_text : (r r' : Reading P S) (o : Opens) (size : ℕ) (s : List ℕ) → Stands r o → on_event how r size (text s) ≡ on r' → Stands r' (opens_by o (text s))
  unfolding pick text_refusal
  stands_text r r' o size s st e =
      let u = unless_on (text_refusal (length r.under) r.top.stage (how.bars s)) _ r' e in
      let amiss : text_amiss o ≡ false = text_same r o st ∙ (first_zero 26 _ _ (omega arith) u.0).0 in
      let c : o.top.child ≡ false = child_not (at_top o.under) o.top.child o.top.said amiss in
      subst (λ q. Stands q (opens_by o (text s))) u.1 (record { top = record { label = st.top.label; stage = refl; one = rw c refl }; under = st.under })

  stands_end : (r r' : Reading P S) (o : Opens) (size x : ℕ) → Stands r o → on_event how r size (end x) ≡ on r' → Stands r' (opens_by o (end x))
  unfolding end_refusal
  stands_end r r' o size x st e =
      let u = unless_on (end_refusal (length r.under) r.top.label x) (shut_into how r size r.under) r' e in
      subst (λ q. Stands q (opens_by o (end x))) u.1 (go r.under o.under refl u.0 st.under)
    where
      go : (ls : List (Level P)) (os : List Open) → r.under ≡ ls → end_refusal (length r.under) r.top.label x ≡ 0 → AllAlike ls os → Stands (shut_into how r size ls) (closed o os)
      go [] [] d f a =
          let shut : eqb (length r.under) 0 || not (eqb x r.top.label) ≡ false = (first_zero 28 _ _ (omega arith) f).0 in
          absurd (true≢false (rw d at shut))
      go [] (k ∷ os) d f a = absurd a
      go (l ∷ ls) [] d f a = absurd a
      go (l ∷ ls) (k ∷ os) d f a = record { top = record { label = a.0.label; stage = a.0.stage; one = a.0.one }; under = a.1 }

  pub stands_event : (ev : Event) (r r' : Reading P S) (o : Opens) (size : ℕ) → Stands r o → on_event how r size ev ≡ on r' → Stands r' (opens_by o ev)
  stands_event (start x) r r' o size st e = stands_start r r' o size x st e
  stands_event (text s) r r' o size st e = stands_text r r' o size s st e
  stands_event (end x) r r' o size st e = stands_end r r' o size x st e

  pub stands_follow : (evs : List Event) (r last : Reading P S) (o : Opens) → Stands r o → Follows how r evs last → Stands last (opens_after o evs)
  unfolding Follows opens_after
  stands_follow [] r last o st f = rw (← f) st
  stands_follow (ev ∷ evs) r last o st f = stands_follow evs f.0 last (opens_by o ev) (stands_event ev r f.0 o (size_of ev) st f.2) f.3
