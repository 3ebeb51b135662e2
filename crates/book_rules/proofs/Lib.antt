-- How a rule's number goes, and how the columns of a rule go together.
pub mod RuleNumbers
pub mod RuleColumns
