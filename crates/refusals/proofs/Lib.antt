-- That a result is known by what it comes to.
pub mod Alone
