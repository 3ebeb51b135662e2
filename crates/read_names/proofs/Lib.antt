-- Names and words, and the rows of the table of options.
pub mod SameWord
pub mod NameBytes
pub mod Rows
