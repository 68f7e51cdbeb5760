-- What a text makes of its level, and a law for each way out of the code.
pub mod Texts
