-- What one message leaves, what the loop over the messages keeps, and what the whole pass gives.
pub mod Passing
