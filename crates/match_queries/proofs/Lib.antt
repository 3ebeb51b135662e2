-- A run of queries; demand 3 by the contracts alone and by what a run writes.
pub mod Running
pub mod Contracts
pub mod Listed
