-- The filters in a message's row, and a law for each way through the code.
pub mod Row
