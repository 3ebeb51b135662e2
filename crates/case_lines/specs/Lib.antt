-- What the contracts of `case_lines` cite.
pub mod CaseLines
pub mod CaseAnswers
pub mod Columns
