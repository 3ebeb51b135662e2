-- What is stated of two limits.
pub mod LongerTexts
