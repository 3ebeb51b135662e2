-- The number of positive patterns.
pub mod PositiveCounts
