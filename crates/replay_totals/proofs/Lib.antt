-- What a number says, and what is counted of it.
pub mod Outcomes
pub mod Counting
