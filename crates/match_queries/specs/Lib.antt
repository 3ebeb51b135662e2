-- What a run of queries writes.
pub mod Runs
