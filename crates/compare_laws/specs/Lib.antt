-- What changed between two rule books. Document 02, T-10.
pub mod Comparisons
pub mod NumberByNumber
pub mod ComparisonCases
