pub mod Simulate
pub mod Events
pub mod Refusals
pub mod Place
pub mod Open
pub mod Examples
