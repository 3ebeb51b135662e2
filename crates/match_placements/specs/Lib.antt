-- What the contracts of `match_placements` cite besides the definitions.
pub mod Listing
