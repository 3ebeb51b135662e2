-- Laws that the proofs of this crate use, and of the crate above.
pub mod LoadedRules
pub mod Rest
pub mod Merging
