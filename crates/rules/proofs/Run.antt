pub mod Laws
pub mod Day
pub mod Examples
