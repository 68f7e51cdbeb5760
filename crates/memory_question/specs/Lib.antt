-- What the public call is lent and gives, as its promise has it, and a law for each way through the code.
pub mod Question
pub mod Laws
