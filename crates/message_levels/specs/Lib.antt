-- What a level of the workspace is, and the laws of work on one level.
pub mod Level
pub mod Laws
