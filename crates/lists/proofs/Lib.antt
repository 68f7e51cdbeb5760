-- Laws and examples against which wrong definitions are tried.
pub mod Below
pub mod Same
