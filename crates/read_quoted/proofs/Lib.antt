-- How these scanners' readings go together.
pub mod Halting
pub mod Quotes
pub mod Hexes
pub mod Appended
pub mod Bytes
