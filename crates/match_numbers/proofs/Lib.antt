-- How numbers are stored one after the other.
pub mod Storing
