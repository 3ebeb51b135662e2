-- What a step of reading promises.
pub mod Stepping
