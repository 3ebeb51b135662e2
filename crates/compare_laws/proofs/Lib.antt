-- Laws of what is written for two books.
pub mod Books
pub mod AcceptedRules
pub mod Merging
pub mod EveryNumber
pub mod Alike
pub mod Differences
pub mod Lengths
pub mod ComparisonCases
