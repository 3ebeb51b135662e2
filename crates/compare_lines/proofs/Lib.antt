-- What differs, by the words and the commas between them.
pub mod Differing
