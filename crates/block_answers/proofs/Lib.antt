-- Laws of the answers' bytes.
pub mod Answers
pub mod Lengths
