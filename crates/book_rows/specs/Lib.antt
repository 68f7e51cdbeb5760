-- The tests of one state and of one body, and their laws.
pub mod Rows
