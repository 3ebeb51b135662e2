-- A negated pattern, and what is seen of its field.
pub mod Placing
