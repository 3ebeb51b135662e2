-- What the contracts of `case_columns` cite.
pub mod Queries
