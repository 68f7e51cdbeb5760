-- Whether a label fits, what the loop over the states has answered after some turns, and the working out.
pub mod Labels
pub mod Answering
