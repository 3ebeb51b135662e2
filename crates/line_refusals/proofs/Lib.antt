-- How long the text of a refusal can be.
pub mod Lengths
