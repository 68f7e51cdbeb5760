pub mod Laws
pub mod Different
pub mod Counts
pub mod Examples
