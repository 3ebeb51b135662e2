-- Laws of the numbers of a line.
pub mod Digits
pub mod Results
pub mod HexDigits
pub mod HexForm
pub mod HexBytes
