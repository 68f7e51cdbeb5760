-- That a promise allows one outcome of a call.
pub mod Alone
