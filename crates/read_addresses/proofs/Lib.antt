-- How these scanners' readings go together.
pub mod Commas
