-- Lines gathered, and their numbers.
pub mod Gathering
pub mod Numbering
pub mod Deciding
