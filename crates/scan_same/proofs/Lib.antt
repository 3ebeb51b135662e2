-- Equality of bytes in pairs.
pub mod SameBytes
