-- What the two public calls give, as their promises have it, and a law for each way through the code.
pub mod Calls
pub mod Laws
