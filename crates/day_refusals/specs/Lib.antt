-- The counts as the definition has them, and a law for each way out of the refusals.
pub mod Counted
pub mod Laws
