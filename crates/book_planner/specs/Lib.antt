-- A state from its bytes, where its successors lead, and the loops that make a plan.
pub mod OneState
pub mod Leads
pub mod Make
