pub mod Laws
pub mod AnySlots
pub mod Examples
