pub mod Key
pub mod Laws
pub mod FirstC
pub mod Examples
