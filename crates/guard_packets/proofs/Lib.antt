-- Laws of the records of a block, for the proofs of `guard_packets` and of the crates above.
pub mod Pairs
pub mod Records
pub mod Counts
