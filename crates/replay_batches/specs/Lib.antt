-- What the contracts of `replay_batches` cite beside the definitions.
pub mod Numbers
pub mod Batches
