-- The numbers of an entry and of a kind, and what an accepted book gives.
pub mod Entries
pub mod Kinds
pub mod BookAccepted
