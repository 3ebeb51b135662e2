-- What the contracts of `write_bytes` cite.
pub mod Puts
pub mod Clipped
