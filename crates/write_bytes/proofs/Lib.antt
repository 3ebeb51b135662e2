-- Laws that the proofs of `write_bytes` and of the crates above cite.
pub mod Putting
pub mod Decimals
pub mod Clipping
pub mod Whole
