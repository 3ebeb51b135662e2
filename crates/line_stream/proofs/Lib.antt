-- How feeding follows, whatever is answered, and that a run of it writes the program's output.
pub mod Room
pub mod Parts
pub mod Keeping
pub mod Taking
pub mod States
pub mod Taken
pub mod Loop
pub mod Feeds
pub mod Finish
pub mod Whole
pub mod Ended
pub mod Output
pub mod Running
