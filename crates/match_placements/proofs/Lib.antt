-- What a packet that passed its checks hands on, and the answers of "first" and "next".
pub mod CheckedInput
pub mod Answering
pub mod ByParts
