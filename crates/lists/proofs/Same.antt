-- Laws and examples of lists that are the same.
pub mod Comparing
pub mod Examples
