-- For fair forms the scanner reads exactly what the form means, and stops at the first byte with which nothing of the form goes on.
pub mod Bools
pub mod Bounds
pub mod Within
pub mod Sound
pub mod Complete
pub mod Places
pub mod Pieces
pub mod Parts
pub mod At
pub mod Words
