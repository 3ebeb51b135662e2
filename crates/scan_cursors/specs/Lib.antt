-- What a scanner promises.
pub mod Reads
