-- Spans within a buffer.
pub mod Spans
