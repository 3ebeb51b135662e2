-- What is true of rule books, of loading them, and of what they decide.
pub mod Lines
pub mod Sources
pub mod Loaded
pub mod Rising
pub mod Deciding
pub mod Causes
pub mod Depends
pub mod Blocks
pub mod BookCases
