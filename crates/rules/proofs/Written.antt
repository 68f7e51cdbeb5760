pub mod Beginnings
pub mod Shape
pub mod Laws
pub mod Read
pub mod Examples
