pub mod Fine
pub mod Examples
