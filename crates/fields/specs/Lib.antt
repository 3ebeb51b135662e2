-- What is seen of a packet: for the crates that ask about its fields.
pub mod Seen
pub mod Places
