-- Equality of tables by computing is equality, and so is `==`.
pub mod SameLists
pub mod Derived
pub mod Exactly
pub mod TableTests
