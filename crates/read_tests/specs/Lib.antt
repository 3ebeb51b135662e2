-- Names for parts of the forms of tests.
pub mod Parts
