-- What an end makes of the levels and the memory, and a law for each way out of the code.
pub mod Ends
