-- What the contracts of `rule_book` cite beside the definitions.
pub mod Lines
