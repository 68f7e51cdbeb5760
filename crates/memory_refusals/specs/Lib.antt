-- What a question's call is lent, and a law for each way out of its refusals.
pub mod Question
pub mod Laws
