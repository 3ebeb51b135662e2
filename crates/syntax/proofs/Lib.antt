-- The reader accepts a text with a table exactly if the grammar has the text for that table; 6 and 7 stand exactly where a text leaves its option's form
-- or its limits.
pub mod Truths
pub mod Frame
pub mod Rows
pub mod Names
pub mod Single
pub mod OptionAt
pub mod WrongBytes
pub mod LimitedParts
pub mod BeyondLimits
pub mod ExactPlaces
pub mod Loop
pub mod UsablePatterns
pub mod Exact
