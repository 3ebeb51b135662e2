-- How the pieces of forms are read.
pub mod AtPlace
pub mod Gaps
pub mod Bounding
pub mod Wording
pub mod Numerals
