-- Laws that the proofs of this crate use, and that a block's answers are those of the book, packet by packet.
pub mod Records
pub mod Renumbering
pub mod Rules
pub mod Resolving
pub mod Blocks
