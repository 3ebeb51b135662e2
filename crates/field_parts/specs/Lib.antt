-- What the contracts of `parts` cite besides the definitions: parts of a caller's buffer.
pub mod Parts
