-- How the parts of canonical text go together.
pub mod Canonical
