-- What is read of an option after its name.
pub mod Parsing
