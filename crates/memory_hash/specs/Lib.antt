-- The hash of a question.
pub mod Hash
