-- The index: what it is. Its laws stand in proofs/.
pub mod Index
