-- How the columns of a line go together; what the code keeps of a line is enough, and what is fed is the program decisions.
pub mod Columns
pub mod Kept
pub mod Whole
