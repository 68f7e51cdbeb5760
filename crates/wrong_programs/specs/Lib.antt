-- The wrong programs. That no promise allows what they give stands in proofs/.
pub mod Runs
pub mod Calls
