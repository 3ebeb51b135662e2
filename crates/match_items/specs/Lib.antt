-- What the contracts of `match_items` cite besides the definitions.
pub mod Bounds
