-- A language of text forms that knows no option of any signature. Nothing here assumes anything.
pub mod Bytes
pub mod Form
pub mod Scan
pub mod Place
pub mod Pieces
pub mod Bounds
