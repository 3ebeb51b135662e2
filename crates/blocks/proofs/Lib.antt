-- Laws of counts of bytes.
pub mod Bytes
