-- What the contract of `search` cites besides the definitions.
pub mod Searching
