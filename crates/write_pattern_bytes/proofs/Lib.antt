-- How the text of a pattern's bytes grows byte by byte.
pub mod Bytes
