-- How the answer of a writing follows, and that what is written reads back.
pub mod Measured
pub mod Reread
