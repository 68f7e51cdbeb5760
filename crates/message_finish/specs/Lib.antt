-- What a message comes to after its last event, and a law for each way out of the code.
pub mod Finish
