-- What the contracts of `book_rules` cite.
pub mod RuleLines
