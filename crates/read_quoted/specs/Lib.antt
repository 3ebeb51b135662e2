-- What the scanners promise.
pub mod Quoting
pub mod Storing
