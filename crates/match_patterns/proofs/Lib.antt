-- Bytes at a place, the places of a list of starts, and the first of them.
pub mod BytesAtPlace
pub mod Listing
pub mod FirstStart
