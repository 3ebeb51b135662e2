-- Laws of a step of reading, and of the loop over steps.
pub mod Listed
pub mod OptionSteps
pub mod Looping
