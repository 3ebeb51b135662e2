-- What a well-formed table gives the search.
pub mod Formed
