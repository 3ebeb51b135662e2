-- Names for parts of the forms of ranges.
pub mod Parts
