-- What the contracts of `decision_lines` cite beside the definitions.
pub mod DecisionLines
pub mod Columns
