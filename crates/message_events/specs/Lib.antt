-- What each event does to the reader's state and to all that is lent, and that it is what the rules say.
pub mod Meant
pub mod Step
pub mod Laws
