-- Laws and examples of the numbers below n, each asked of a call.
pub mod Any
