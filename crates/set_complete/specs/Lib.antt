-- What the loop over the states has completed after some turns.
pub mod Completing
