-- What the contracts of `match_starts` cite besides the definitions.
pub mod StartTexts
