-- No promise allows what the wrong programs give.
pub mod Runs
pub mod Calls
