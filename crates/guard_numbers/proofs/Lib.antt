-- Laws that the proofs of `guard_numbers` cite.
pub mod Tests
pub mod Fronts
