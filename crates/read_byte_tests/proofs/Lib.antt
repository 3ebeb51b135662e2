-- Byte counts among the numbers; what the next byte tells.
pub mod Counts
pub mod FlagWords
