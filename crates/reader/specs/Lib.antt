-- What reading the options of a text promises.
pub mod Stored
