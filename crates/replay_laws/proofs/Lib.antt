-- Laws of a replay.
pub mod Totals
pub mod Books
pub mod ReplayCases
