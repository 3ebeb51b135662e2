-- What the contracts of `match_numbers` cite besides the definitions.
pub mod Numbers
