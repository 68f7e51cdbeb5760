-- The three demands, and how they follow from the definitions' laws.
pub mod Words
pub mod Demands
