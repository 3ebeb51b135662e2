-- What the contracts of `guard_blocks` cite beside the definitions.
pub mod Numbering
