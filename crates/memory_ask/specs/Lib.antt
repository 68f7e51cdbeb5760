-- The inner call: its counts as the definition carries them, what a question needs to be asked, and a law for each way through the code.
-- What every answer keeps: crate rules, proofs/Memory/Laws.antt.
pub mod Ask
pub mod Laws
