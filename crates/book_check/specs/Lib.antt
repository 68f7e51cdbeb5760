-- A law for each way out of the checks.
pub mod Steps
pub mod Refused
