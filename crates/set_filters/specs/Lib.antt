-- What the loop over the filters has done after some turns, and that it reads the completed set.
pub mod Filters
