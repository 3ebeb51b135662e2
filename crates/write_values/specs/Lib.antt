-- What the contracts of `write_values` cite.
pub mod Parts
