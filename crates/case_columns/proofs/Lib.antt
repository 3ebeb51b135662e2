-- Laws of the query: the brackets, the starts between them, and what the code's answer tells.
pub mod Enclosed
pub mod Starts
pub mod Queries
