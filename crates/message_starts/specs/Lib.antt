-- What a start makes of the levels, and a law for each way out of the code.
pub mod Starts
