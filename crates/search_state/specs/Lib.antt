-- What the contracts of `search_state` cite besides the definitions.
pub mod Inputs
pub mod Outcomes
pub mod Choosing
