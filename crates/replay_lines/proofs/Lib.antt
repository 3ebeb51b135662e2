-- What the proofs of a replay's steps cite, and what a run of them writes.
pub mod Kept
pub mod Counting
pub mod Lookahead
pub mod Running
pub mod Lengths
pub mod NarrowRules
pub mod Replaying
pub mod Whole
pub mod Ending
