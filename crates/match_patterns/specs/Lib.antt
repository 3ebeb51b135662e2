-- What a walk over the starts of a field finds.
pub mod Starts
