-- A memory that has a slot, or one kept, with the laws of slots and the count lent; then a law for each way through the code.
pub mod Slots
pub mod Loops
