-- What the contracts of `book_answers` cite beside the definitions.
pub mod BookAnswers
