-- How many bytes a test reads.
pub mod Inside
