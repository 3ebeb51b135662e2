-- What the contracts of `write_options` cite.
pub mod Parts
