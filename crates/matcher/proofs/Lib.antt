-- Laws that the proofs of several functions use, that a table passed over is not met, that verdicts vary, and when 20 is answered.
pub mod Answering
pub mod Matching
pub mod PassedOver
pub mod Varying
pub mod Unreadable
