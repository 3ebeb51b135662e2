-- Laws of a map of fields: one span, one field, the fields in a row.
pub mod Spans
pub mod Fields
