-- The numbers of the refusals, and that none of them is 0.
pub mod Numbers
pub mod Laws
