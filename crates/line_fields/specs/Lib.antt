-- What the contracts of `line_fields` cite.
pub mod FieldMaps
