-- The walk over the slots.
pub mod Counted
