-- What a range is counted from, sums of signed numbers, and the exact span of a window.
pub mod Bases
pub mod Sums
pub mod Exact
