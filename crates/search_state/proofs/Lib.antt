-- The first of a list of placements, start by start.
pub mod Answering
pub mod Extending
pub mod Starting
