-- What the contracts of `line_io` cite.
pub mod Blocks
pub mod States
