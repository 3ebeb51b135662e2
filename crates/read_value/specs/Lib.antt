-- How the code's values stand for the definitions' options.
pub mod Values
