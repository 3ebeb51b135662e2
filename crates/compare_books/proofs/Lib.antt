-- From loaded books to what is written, and how much that is.
pub mod Books
pub mod Lengths
