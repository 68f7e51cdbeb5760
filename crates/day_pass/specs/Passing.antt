-- The pass over the messages, message by message. Section "Questions and the memory".
use Rattle.std.specs.Prelude.{◌≡◌, refl, eqb, length, replicate, Result, Ok, Err}
use Rattle.std.proofs.Common.{sym, ◌∙◌, add-one, length-append, take_at, drop_at, drop-drop, ne_eqb}
use Rattle.std.proofs.Math.Path.{ap}
use mathlib.Core.List.{List, [], ◌∷◌, ◌++◌, append_assoc}
use Prim.Native.Nat.{ℕ, suc, ◌+◌, ◌*◌, ◌<◌, ◌≤◌}
use native.Mathlib.Omega.{arith}
use Rattle.std.proofs.Math.ListN.{drop}
use Rattle.lists.specs.Choice.{pick}
use Rattle.lists.specs.Parts.{patch}
use Rattle.rules.specs.Book.{states_of, meaning_of}
use Rattle.rules.specs.DayFile.{message_count, message_length, bytes_before, message_body, day_refusal}
use Rattle.rules.specs.Match.{filters_where}
use Rattle.rules.specs.Message.{Outcome}
use Rattle.rules.specs.Sets.{completed}
use Rattle.rules.specs.Pass.{Carried, pass_message, answer_row, Passed, pass_to}
use Rattle.rules.specs.Calls.{count_limit}
use Rattle.rules.specs.Run.{row_width, workspace_width, Returned, pass_day}
use Rattle.rules.specs.Promise.{lent}
use Rattle.refusals.specs.declared.Refused.{Refused}
use Rattle.refusals.specs.Numbers.{number_of, refused_message, refused_place}
use Rattle.refusals.specs.Laws.{number_positive}
use Rattle.book_plan.specs.declared.State.{State}
use Rattle.book_plan.specs.Plan.{meaning_in, PlanOf}
use Rattle.book_plan.proofs.Laws.{plan_means}
use Rattle.memory_index.specs.Index.{Indexed}
use Rattle.day_check.specs.DayAccepted.{DayAccepted, accepted, bytes_rise, message_long}
use Rattle.message_reading.specs.declared.Ended.{Ended}
use Rattle.message_reading.specs.Outcomes.{Says, CanRead, ReadMessage}
use Rattle.message_reading.specs.Turn.{Rose}
use Rattle.memory_ask.specs.declared.Counts.{Counts}
use Rattle.memory_ask.specs.Ask.{carried_in, count_most}
use Rattle.message_levels.specs.Level.{set_at}
use Rattle.day_row.specs.Row.{root_filters, row_of}

-- a pass that is not refused
abbrev pub pass_returned : Counts → List ℕ → List ℕ → List ℕ → Returned
pass_returned c memory answers workspace =
    record { refusal = 0; asked = c.asked; anew = c.anew; filled = c.filled; memory = memory; answers = answers; workspace = workspace }

-- ── what a call is lent ──
-- a book's plan, one of a day file's messages, the levels, the index of the filled slots, counts that every byte might
-- raise
pub record MessageReady (book day : List ℕ) (k : ℕ) (plan : List State) (index memory ws : List ℕ) (c : Counts) : Type 0 where
  pub within : k < message_count day
  pub planned : PlanOf plan book
  pub indexed : Indexed index memory c.filled
  pub levels : workspace_width ≤ length ws
  pub asked_rises : c.asked + length day < count_most
  pub anew_rises : c.anew + length day < count_most

-- the same for all messages, with room for their rows
pub record PassReady (book day : List ℕ) (plan : List State) (index memory answers ws : List ℕ) (c : Counts) : Type 0 where
  pub planned : PlanOf plan book
  pub indexed : Indexed index memory c.filled
  pub rows : row_width * message_count day ≤ length answers
  pub levels : workspace_width ≤ length ws
  pub asked_few : c.asked < count_limit
  pub anew_few : c.anew < count_limit

-- ── one message ──
-- what message k leaves: what is carried on, its row, and the workspace past the levels as it was
pub record MessageWritten (book day : List ℕ) (k : ℕ) (m answers ws : List ℕ) (c r : Counts) (m' answers' ws' : List ℕ) : Type 0 where
  pub carried : carried_in m' r ≡ (pass_message (meaning_of book) (message_body day k) (carried_in m c)).state
  pub row : answers' ≡ patch answers (row_width * k) (answer_row book (pass_message (meaning_of book) (message_body day k) (carried_in m c)))
  pub long : length ws' ≡ length ws
  pub past : drop workspace_width ws' ≡ drop workspace_width ws
  pub rose : Rose c r (message_length day k)

-- every byte of a body might raise a count: it is within the day file
pub body_can_read : (book day : List ℕ) (k n : ℕ) (plan : List State) (index memory ws body : List ℕ) (c : Counts) → body ≡ message_body day n → day_refusal day ≡ 0 → n < message_count day →
    MessageReady book day k plan index memory ws c → CanRead index memory body c
body_can_read book day k n plan index memory ws body c is laid there r =
    let g : DayAccepted day = accepted day laid in
    let few : length body ≤ length day = omega (arith, ap length is ∙ message_long day n laid there, bytes_rise day n (message_count day) there, g.whole) in
    record { indexed = r.indexed; asked_rises = omega (arith, few, r.asked_rises); anew_rises = omega (arith, few, r.anew_rises) }

-- the row of an outcome that a message's end says
row_is : (book : List ℕ) (o : Outcome (List ℕ) Carried) (e : Ended) (w v : List ℕ) → Says o e w v → row_of (root_filters book w e.read) ≡ answer_row book o
unfolding answer_row pick
row_is book o e w v h = go e.read h.refusal h.place h.root
  where
    go : (r : Result (Unit {0}) Refused) → refused_message r ≡ o.refusal → refused_place r ≡ o.place → (refused_message r ≡ 0 → set_at w 0 ≡ o.root) →
        row_of (root_filters book w r) ≡ o.refusal ∷ o.place ∷ pick (eqb o.refusal 0) (filters_where book (completed (states_of book) o.root)) 0 ∷ []
    go (Ok x) refusal place root = rw (← refusal, ← place, ← root refl) refl
    go (Err d) refusal place root = rw (← refusal, ← place, ne_eqb (number_of d.refusal) 0 (λ z. omega (arith, number_positive d.refusal, z))) refl

pub message_written : (book day : List ℕ) (k : ℕ) (p : List State) (x m answers ws : List ℕ) (c : Counts) (body v w a : List ℕ) (e : Ended) (f : Result ℕ Refused) →
    MessageReady book day k p x m ws c → body ≡ message_body day k → day_refusal day ≡ 0 → ReadMessage body (meaning_in p) ws m c e w v →
    f ≡ root_filters book w e.read → a ≡ patch answers (row_width * k) (row_of f) → MessageWritten book day k m answers ws c e.counts v a w
message_written book day k p x m answers ws c body v w a e f ready is laid read g t =
    let o : Outcome (List ℕ) Carried = pass_message (meaning_of book) (message_body day k) (carried_in m c) in
    let says : Says o e w v = rw (is, plan_means p book ready.planned) at read.says in
    let long : length body ≡ message_length day k = ap length is ∙ message_long day k laid ready.within in
    record {
      carried = says.carried;
      row = t ∙ ap (patch answers (row_width * k)) (ap row_of g ∙ row_is book o e w v says);
      long = read.long;
      past = read.past;
      rose = rw long at read.rose;
    }

-- ── the loop: k messages are passed ──
pub record PassedUpTo (book day m₀ answers₀ ws₀ : List ℕ) (c₀ : Counts) (k : ℕ) (c : Counts) (m answers ws : List ℕ) : Type 0 where
  pub carried : carried_in m c ≡ (pass_to book day (carried_in m₀ c₀) k).carried
  pub rows : answers ≡ (pass_to book day (carried_in m₀ c₀) k).rows ++ drop (row_width * k) answers₀
  pub rows_long : length (pass_to book day (carried_in m₀ c₀) k).rows ≡ row_width * k
  pub long : length ws ≡ length ws₀
  pub past : drop workspace_width ws ≡ drop workspace_width ws₀
  pub rose : Rose c₀ c (bytes_before day k)

row_long : (book : List ℕ) (o : Outcome (List ℕ) Carried) → length (answer_row book o) ≡ row_width
unfolding answer_row
row_long book o = refl

-- a row after the rows before it
row_next : (rows rest row : List ℕ) (k : ℕ) → length rows ≡ row_width * k → length row ≡ row_width → patch (rows ++ rest) (row_width * k) row ≡ (rows ++ row) ++ drop row_width rest
unfolding patch
row_next rows rest row k h l =
    rw (take_at rows rest (row_width * k) h, drop_at rows rest (row_width * k) h, l) (sym (append_assoc rows row (drop row_width rest)))

module _ (book day m₀ answers₀ ws₀ : List ℕ) (c₀ : Counts) where
  passed_none : PassedUpTo book day m₀ answers₀ ws₀ c₀ 0 c₀ m₀ answers₀ ws₀
  unfolding pass_to bytes_before
  passed_none = record { carried = refl; rows = refl; rows_long = refl; long = refl; past = refl; rose = record { asked = omega arith; anew = omega arith } }

  passed_suc : (k : ℕ) (c r : Counts) (m answers ws v a w : List ℕ) → PassedUpTo book day m₀ answers₀ ws₀ c₀ k c m answers ws →
      MessageWritten book day k m answers ws c r v a w → PassedUpTo book day m₀ answers₀ ws₀ c₀ (suc k) r v a w
  unfolding pass_to bytes_before
  passed_suc k c r m answers ws v a w p t =
      let before : Passed = pass_to book day (carried_in m₀ c₀) k in
      let o : Outcome (List ℕ) Carried = pass_message (meaning_of book) (message_body day k) before.carried in
      let same : pass_message (meaning_of book) (message_body day k) (carried_in m c) ≡ o = ap (pass_message (meaning_of book) (message_body day k)) p.carried in
      let next : row_width * k + row_width ≡ row_width * suc k = omega arith in
      record {
        carried = t.carried ∙ ap (λ (y : Outcome (List ℕ) Carried). y.state) same;
        rows = t.row ∙ rw (same, p.rows) (row_next before.rows (drop (row_width * k) answers₀) (answer_row book o) k p.rows_long (row_long book o)
            ∙ ap (λ (l : List ℕ). (before.rows ++ answer_row book o) ++ l) (drop-drop row_width (row_width * k) answers₀ ∙ ap (λ (i : ℕ). drop i answers₀) next));
        rows_long = rw (length-append, p.rows_long, row_long book o) (omega arith);
        long = t.long ∙ p.long;
        past = t.past ∙ p.past;
        rose = record { asked = omega (arith, t.rose.asked, p.rose.asked); anew = omega (arith, t.rose.anew, p.rose.anew) };
      }

-- what the loop keeps besides: the lengths of what is lent, and the index of the memory
pub record Passing (book day : List ℕ) (p : List State) (x₀ m₀ answers₀ ws₀ : List ℕ) (c₀ : Counts) (count : ℕ) (x m answers ws : List ℕ) (c : Counts) (k : ℕ) : Type 0 where
  pub ready : PassReady book day p x₀ m₀ answers₀ ws₀ c₀
  pub laid : day_refusal day ≡ 0
  pub passed : PassedUpTo book day m₀ answers₀ ws₀ c₀ k c m answers ws
  pub within : k ≤ count
  pub all : count ≡ message_count day
  pub indexed : Indexed x m c.filled
  pub longm : length m ≡ length m₀
  pub longa : length answers ≡ length answers₀

module _ (book day : List ℕ) (p : List State) (x₀ m₀ answers₀ ws₀ : List ℕ) (c₀ : Counts) (count : ℕ) where
  pub passing_none : count ≡ message_count day → day_refusal day ≡ 0 → PassReady book day p x₀ m₀ answers₀ ws₀ c₀ → Passing book day p x₀ m₀ answers₀ ws₀ c₀ count x₀ m₀ answers₀ ws₀ c₀ 0
  passing_none e laid r =
      record { ready = r; laid = laid; passed = passed_none book day m₀ answers₀ ws₀ c₀; within = omega arith; all = e; indexed = r.indexed; longm = refl; longa = refl }

  module _ (x m answers ws : List ℕ) (c : Counts) (k : ℕ) (g : Passing book day p x₀ m₀ answers₀ ws₀ c₀ count x m answers ws c k) where
    pub passing_room : k < count → row_width * k + row_width ≤ length answers
    passing_room h = omega (arith, g.all, g.longa, g.ready.rows)

    -- the bytes before message k are within the day file, and that is short
    pub passing_ready : k < count → MessageReady book day k p x m ws c
    passing_ready h =
        let a : DayAccepted day = accepted day g.laid in
        let before : bytes_before day k ≤ length day = omega (arith, bytes_rise day k (message_count day) (omega (arith, g.all)), a.whole) in
        record {
          within = omega (arith, g.all);
          planned = g.ready.planned;
          indexed = g.indexed;
          levels = omega (arith, g.passed.long, g.ready.levels);
          asked_rises = omega (arith, g.passed.rose.asked, before, a.long, g.ready.asked_few);
          anew_rises = omega (arith, g.passed.rose.anew, before, a.long, g.ready.anew_few);
        }

    pub passing_more : (r : Counts) (u v a w : List ℕ) → k < count → MessageWritten book day k m answers ws c r v a w → Indexed u v r.filled →
        length v ≡ length m → length a ≡ length answers → Passing book day p x₀ m₀ answers₀ ws₀ c₀ count u v a w r (k + 1)
    passing_more r u v a w h t i e f = rw (add-one k) (record {
      ready = g.ready;
      laid = g.laid;
      passed = passed_suc book day m₀ answers₀ ws₀ c₀ k c r m answers ws v a w g.passed t;
      within = omega arith;
      all = g.all;
      indexed = i;
      longm = e ∙ g.longm;
      longa = f ∙ g.longa;
    })

    pub passing_all : count ≤ k → PassedUpTo book day m₀ answers₀ ws₀ c₀ (message_count day) c m answers ws
    passing_all h = let e : k ≡ message_count day = omega (arith, g.all, g.within) in rw e at g.passed

pub ruleset passing_laws = (passing_room, passing_all)

-- ── the whole pass ──
pub pass_is : (book day m answers ws : List ℕ) (c r : Counts) (v a w u : List ℕ) → PassedUpTo book day m answers ws c (message_count day) r v a w →
    u ≡ replicate workspace_width 0 ++ drop workspace_width w → pass_returned r v a u ≡ pass_day (lent book day m answers ws) (carried_in m c)
unfolding pass_day
pass_is book day m answers ws c r v a w u p e =
    let d : carried_in v r ≡ (pass_to book day (carried_in m c) (message_count day)).carried = p.carried in
    rw (p.rows, e, p.past, ← d) refl
