-- The reading that the workspace holds, and that each event does to it what the rules say.
pub mod Agree
pub mod Turn
pub mod Outcomes
