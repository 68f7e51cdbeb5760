-- The loop that joins the LEAF states of a value.
pub mod Leaves
