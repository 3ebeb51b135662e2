-- Laws of the parts of a line, over any delimiter, of a loop over them, and of a parser's answer.
pub mod Delimiters
pub mod PartsFrom
pub mod Results
pub mod Splits
