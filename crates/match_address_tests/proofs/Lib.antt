-- Addresses among some.
pub mod Among
