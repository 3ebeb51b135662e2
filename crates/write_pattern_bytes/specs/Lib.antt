-- What the contracts of `write_pattern_bytes` cite.
pub mod Parts
