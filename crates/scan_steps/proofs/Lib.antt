-- How two words are told apart, and how an option is put together of its pieces.
pub mod EitherWord
pub mod Closing
