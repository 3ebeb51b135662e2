-- What the contracts of `case_lists` cite.
pub mod AnswerTexts
