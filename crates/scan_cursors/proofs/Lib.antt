-- How readings go together, how a byte chooses between forms, where readings end, and a form read any number of times.
pub mod Readings
pub mod Choices
pub mod Onward
pub mod Repeated
