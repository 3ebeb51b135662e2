-- The answer to a book is short.
pub mod Lengths
