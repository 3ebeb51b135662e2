-- What the scanners promise.
pub mod Listing
