-- A test of a field's length, by whether the field is present.
pub mod Presence
