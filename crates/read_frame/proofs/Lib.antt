-- How a list begins, the front of a text, and the dashes of an option.
pub mod Fronts
pub mod Opening
pub mod Dashes
