-- What the contracts of `compare_rules` cite beside the definitions.
pub mod LoadedRules
