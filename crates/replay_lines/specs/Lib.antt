-- What the contracts of `replay_lines` cite beside the definitions; and what a run of them is.
pub mod Feeding
pub mod Runs
