-- Words that the definitions share, each with its laws.
pub mod Choice
pub mod Parts
pub mod Below
pub mod Checks
pub mod Lending
pub mod Same
