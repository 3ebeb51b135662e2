-- What the window of a pattern leaves.
pub mod Spans
pub mod Ends
