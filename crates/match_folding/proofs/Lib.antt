-- The table's rule, by one test of all its entries, and what it says of bytes that are compared.
pub mod Entries
pub mod Alike
