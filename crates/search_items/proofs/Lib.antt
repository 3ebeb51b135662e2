-- One item more, the items gone over, and the trial of a pattern's starts.
pub mod Trials
pub mod Stepping
pub mod PassedItems
