pub mod Index
pub mod Chains
pub mod Laws
