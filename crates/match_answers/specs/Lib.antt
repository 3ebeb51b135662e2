-- What the contracts of `match_answers` cite besides the definitions.
pub mod Answering
pub mod PositivePatterns
pub mod Verdicts
