-- What a keyword stands for among a table's options.
pub mod Options
