-- The numbers of an entry, what an accepted day file gives, and a law for each way out of the checks.
pub mod Entries
pub mod DayAccepted
pub mod Steps
