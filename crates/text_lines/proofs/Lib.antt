-- How the answer to a text follows; what the code keeps of a line is enough, and what is fed is the line program.
pub mod AnswerTexts
pub mod Kept
pub mod Whole
pub mod Lengths
