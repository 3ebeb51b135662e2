-- The buffer of a field, and the fields of a map.
pub mod Buffers
pub mod Mapped
