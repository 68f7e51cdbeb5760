-- What one event does to a message, for each case of the answer: it is read on, or the number that refuses it and the
-- place, the first byte of the refused event. Section "Refusal numbers": "Place is the first byte of the refused event".
use Rattle.std.specs.Prelude.{ℕ, Result, Ok, Err}
use Rattle.refusals.specs.declared.Refused.{Refused}
use Rattle.refusals.specs.Numbers.{number_of}
use Rattle.message_events.specs.declared.Reader.{Reader}

pub data Stepped : Type 0 where
  goes_on : Reader → Stepped
  refused_at : ℕ → ℕ → Stepped

abbrev pub meant : Result Reader Refused → Stepped
meant (Ok s) = goes_on s
meant (Err e) = refused_at (number_of e.refusal) e.place
