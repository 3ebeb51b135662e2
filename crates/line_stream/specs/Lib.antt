-- What the contracts of `line_stream`, and of the programs' work on slices above it, cite; and what a run of them is.
pub mod Stream
pub mod Whole
pub mod Steps
pub mod Runs
pub mod Ended
