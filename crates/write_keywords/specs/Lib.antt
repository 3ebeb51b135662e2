-- What the contracts of `write_keywords` cite.
pub mod Keywords
