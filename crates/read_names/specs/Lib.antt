-- The names of the table of options, and a name's place among them.
pub mod Names
