-- Names for parts of the form of byte_test.
pub mod Parts
