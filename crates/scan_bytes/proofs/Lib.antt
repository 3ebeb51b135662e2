-- Sums of digits.
pub mod Saturation
