-- What one event does, by its kind byte, and a law for each way out of the code.
pub mod Kinds
