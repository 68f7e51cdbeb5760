-- What the loops over the eight numbers have done after some turns.
pub mod Join
