-- What the contracts of `read_insert_modifiers` cite.
pub mod Modifying
