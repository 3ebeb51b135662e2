-- How the four columns of a packet go together.
pub mod FourColumns
