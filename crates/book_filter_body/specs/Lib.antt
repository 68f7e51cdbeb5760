-- Where a filter's body is, the laws of the search for it, and when there is none.
pub mod Found
pub mod Absent
