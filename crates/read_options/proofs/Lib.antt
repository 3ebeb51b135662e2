-- A signed number by its sign and its digits.
pub mod Negation
