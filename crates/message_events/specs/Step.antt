-- What one event does to the reader's state, the workspace and the memory. Section "Refusal numbers", one message.
-- b: what the book means to the message; s: how far the body is read; the open levels are those of the workspace ws up
-- to level s .depth.
use Rattle.std.specs.Prelude.{Bool, List, ℕ, zero, suc, ◌+◌, ◌-◌, ◌<◌, ltb, length, get_or}
use Rattle.lists.specs.Choice.{pick}
use Rattle.lists.specs.Parts.{part}
use Rattle.rules.specs.Bytes.{le2}
use Rattle.rules.specs.Book.{Meaning}
use Rattle.rules.specs.Message.{start_refusal, end_refusal}
use Rattle.rules.specs.Pass.{Carried}
use Rattle.message_levels.specs.Level.{HasLevel, label_in, stage_in}
use Rattle.message_starts.specs.Starts.{child_opened}
use Rattle.message_texts.specs.Texts.{held_by}
use Rattle.message_ends.specs.Ends.{close_of}
use Rattle.memory_ask.specs.declared.Counts.{Counts}
use Rattle.memory_ask.specs.Ask.{carried_in}
use Rattle.memory_index.specs.Index.{Indexed}
use Rattle.message_events.specs.declared.Reader.{Reader}
use Rattle.message_events.specs.Meant.{Stepped, goes_on, refused_at}

-- the next event stands at the reader's place, and the workspace has the open levels
pub record AtEvent (body ws : List ℕ) (s : Reader) : Type 0 where
  pub more : s.place < length body
  pub level : HasLevel ws s.depth

-- fewer than n bytes are left of the body
abbrev pub past : List ℕ → Reader → ℕ → Bool
past body s n = ltb (length body - s.place) n

-- ── start ──
unfoldable pub start_by : ℕ → ℕ → List ℕ → Reader → Stepped × List ℕ
start_by zero x ws s = (
  goes_on (record { place = s.place + 3; depth = s.depth + 1; counts = s.counts }),
  child_opened ws s.depth (stage_in ws s.depth) x,
)
start_by (suc e) x ws s = (refused_at (suc e) s.place, ws)

unfoldable pub start_for : ℕ → List ℕ → Reader → Stepped × List ℕ
start_for x ws s = start_by (start_refusal s.depth (label_in ws s.depth) (stage_in ws s.depth) x) x ws s

unfoldable pub start_of : List ℕ → List ℕ → Reader → Stepped × List ℕ
start_of body ws s = pick (past body s 3) (refused_at 22 s.place, ws) (start_for (le2 body (s.place + 1)) ws s)

-- ── text ──
abbrev pub text_step : Reader → ℕ → ℕ → Stepped
text_step s k zero = goes_on (record { place = s.place + (k + 2); depth = s.depth; counts = s.counts })
text_step s k (suc e) = refused_at (suc e) s.place

-- a text of k bytes
unfoldable pub text_for : ℕ → List ℕ → Meaning → List ℕ → Reader → Stepped × List ℕ
text_for k body b ws s =
    pick (past body s (k + 2)) (refused_at 22 s.place, ws)
    (let h : ℕ × List ℕ = held_by b (part body (s.place + 2) k) ws s.depth in (text_step s k h.0, h.1))

unfoldable pub text_of : List ℕ → Meaning → List ℕ → Reader → Stepped × List ℕ
text_of body b ws s = pick (past body s 2) (refused_at 22 s.place, ws) (text_for (get_or body (s.place + 1) 0) body b ws s)

-- ── end ──
abbrev pub counts_in : Carried → Counts
counts_in c = record { asked = c.asked; anew = c.kept.anew; filled = c.kept.filled }

abbrev pub ended : Reader → List ℕ × Carried → Stepped × List ℕ × List ℕ
ended s c = (goes_on (record { place = s.place + 3; depth = s.depth - 1; counts = counts_in c.1 }), c.0, c.1.kept.memory)

unfoldable pub end_by : ℕ → Meaning → List ℕ → List ℕ → Reader → Stepped × List ℕ × List ℕ
end_by zero b ws m s = ended s (close_of b.states ws s.depth (carried_in m s.counts))
end_by (suc e) b ws m s = (refused_at (suc e) s.place, ws, m)

unfoldable pub end_for : ℕ → Meaning → List ℕ → List ℕ → Reader → Stepped × List ℕ × List ℕ
end_for x b ws m s = end_by (end_refusal s.depth (label_in ws s.depth) x) b ws m s

unfoldable pub end_of : List ℕ → Meaning → List ℕ → List ℕ → Reader → Stepped × List ℕ × List ℕ
end_of body b ws m s = pick (past body s 3) (refused_at 22 s.place, ws, m) (end_for (le2 body (s.place + 1)) b ws m s)

-- ── the index ──
-- the index stays that of the memory: of the slots filled after the event, or before it where it is refused
abbrev pub IndexedNext : List ℕ → List ℕ → ℕ → Stepped → Type 0
IndexedNext x m filled (goes_on t) = Indexed x m t.counts.filled
IndexedNext x m filled (refused_at e p) = Indexed x m filled
