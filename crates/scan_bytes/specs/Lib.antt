-- Classes of bytes, and the number far above.
pub mod Classes
pub mod Capped
