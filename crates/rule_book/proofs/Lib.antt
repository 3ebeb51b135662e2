-- Laws that the proofs of this crate use, and of the crates above.
pub mod Checking
pub mod Loading
pub mod RulesFrom
