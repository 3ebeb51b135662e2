-- What stands around the options of a text.
pub mod Framing
