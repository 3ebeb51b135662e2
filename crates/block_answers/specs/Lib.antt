-- What the contracts of `block_answers` cite.
pub mod AnswerBytes
