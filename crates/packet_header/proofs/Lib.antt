-- Numbers of bytes over their width, and bytes read from the last on.
pub mod Widths
pub mod Reversed
pub mod Weights
