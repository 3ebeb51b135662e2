-- What a turn of a run leaves of the line begun.
pub mod Turns
