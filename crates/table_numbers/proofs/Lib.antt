-- An item can be told from its numbers and its offset.
pub mod ItemsBack
