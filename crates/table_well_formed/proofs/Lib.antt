-- The test of a table as the code parts it, and the walk over the slots.
pub mod Forming
pub mod ToEnd
