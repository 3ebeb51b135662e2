-- What the state holds of the options said, and what is promised of one option more.
pub mod State
pub mod Sound
