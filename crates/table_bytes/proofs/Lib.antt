-- Bits gathered from bytes, a test of every element, and the elements from a place on.
pub mod Bits
pub mod Every
pub mod Rest
