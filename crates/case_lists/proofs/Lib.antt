-- What is left of a rising list, and the list of placements as it is written.
pub mod Rest
pub mod Listing
