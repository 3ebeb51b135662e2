-- What a table that folds letters is.
pub mod Folding
