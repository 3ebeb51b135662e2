-- What the contracts of `replay_totals` cite beside the definitions.
pub mod OutcomeNumbers
pub mod Totals
