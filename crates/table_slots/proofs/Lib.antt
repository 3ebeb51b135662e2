-- An item by its kind, a test of every element, and the elements from a place on.
pub mod ByKind
pub mod Every
pub mod Rest
