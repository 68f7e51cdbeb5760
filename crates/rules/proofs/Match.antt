pub mod Settle
pub mod Laws
pub mod Examples
