-- What the contracts of `match_checks` cite besides the definitions.
pub mod InputChecks
