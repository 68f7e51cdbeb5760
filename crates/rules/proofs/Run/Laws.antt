-- When a run is refused and by which number; and what a refused event leaves.
use Rattle.std.specs.Prelude.{◌≡◌, refl, Bool, true, false, List, [], ◌∷◌, map, ℕ, suc, ◌-◌, ◌*◌, ◌<◌, ◌↔◌, ltb, length}
use Rattle.lists.specs.Checks.{Check, row_fails, AllPass, FirstToFail}
use Rattle.lists.specs.Checks.Laws.{no_zero, given_first, first_given, none_fails, all_pass, row_passes}
use Rattle.rules.specs.Book.{most_filters, filter_count, book_short, ids_fall, bad_sizes, bodies_astray, bad_rows, bad_successors}
use Rattle.rules.specs.DayFile.{most_messages, message_count, day_off, messages_astray}
use Rattle.rules.specs.Message.{Event, bad, got, first_event, Reading, Keeper, refused, on, outcome, on_event, events}
use Rattle.rules.specs.Run.{row_width, workspace_width, Lent, run_refusal, refused_run, pass_day, at_first, run, run_checks}

-- ── the refusal table ──
-- row by row it says, in this order
pub rows_say : (l : Lent) → map {B = ℕ × Bool} (λ (c : Check). (c.number, c.fails)) (run_checks l)
    ≡ (1, book_short l.book) ∷ (2, ltb most_filters (filter_count l.book)) ∷ (3, ids_fall l.book) ∷ (4, bad_sizes l.book) ∷
    (5, bodies_astray l.book) ∷ (6, bad_rows l.book) ∷ (7, bad_successors l.book) ∷ (8, day_off l.day) ∷
    (9, ltb most_messages (message_count l.day)) ∷ (10, messages_astray l.day) ∷
    (11, ltb (length l.answers) (row_width * message_count l.day)) ∷ (12, ltb (length l.workspace) workspace_width) ∷ []
rows_say l = refl

-- no row is numbered 0
pub no_zero_lem : (l : Lent) → no_zero (run_checks l) ≡ true
no_zero_lem l = refl

-- a run is refused by n exactly if a row with number n fails and no row before it in the table does
pub refused_exactly : (l : Lent) (n : ℕ) → 0 < n → (run_refusal l ≡ n) ↔ FirstToFail (run_checks l) n
unfolding run_refusal
refused_exactly l n z = (
  first_given (run_checks l) n z,
  given_first (run_checks l) n,
)

-- it is not refused exactly if no row fails
pub accepted_exactly : (l : Lent) → (run_refusal l ≡ 0) ↔ AllPass (run_checks l)
unfolding run_refusal
accepted_exactly l = (none_fails (run_checks l) (no_zero_lem l), all_pass (run_checks l))

-- then no row does that is looked up by its number
pub accepted_row : (l : Lent) → run_refusal l ≡ 0 → (n : ℕ) → row_fails (run_checks l) n ≡ false
accepted_row l e = row_passes (run_checks l) ((accepted_exactly l).0 e)

pub run_refused : (l : Lent) (e : ℕ) → run_refusal l ≡ suc e → run l ≡ refused_run l (suc e)
unfolding run
run_refused l e h = rw h

pub run_accepted : (l : Lent) → run_refusal l ≡ 0 → run l ≡ pass_day l (at_first l.memory)
unfolding run
run_accepted l h = rw h

-- ── a refused event asks nothing; what its message carried before it stays ──
module _ {P S : Type 0} (how : Keeper P S) (c : ℕ) (cs : List ℕ) (r : Reading P S) where
  pub bad_event : (e : ℕ) → first_event c cs ≡ bad e → events how (c ∷ cs) 0 r ≡ outcome r e
  unfolding events
  bad_event e h = rw (h, events)

  pub refused_event : (ev : Event) (size e : ℕ) → first_event c cs ≡ got ev size → on_event how r size ev ≡ refused e → events how (c ∷ cs) 0 r ≡ outcome r e
  unfolding events
  refused_event ev size e h k = rw (h, events) (rw k refl)

  pub accepted_event : (ev : Event) (size : ℕ) (r' : Reading P S) → first_event c cs ≡ got ev size → on_event how r size ev ≡ on r' →
      events how (c ∷ cs) 0 r ≡ events how cs (size - 1) r'
  unfolding events
  accepted_event ev size r' h k = rw (h, events) (rw k refl)

-- whatever refuses a message, it ends with what was carried until then
pub carried_stays : {P S : Type 0} (r : Reading P S) (e : ℕ) → (outcome r e).state ≡ r.state
carried_stays r e = refl
