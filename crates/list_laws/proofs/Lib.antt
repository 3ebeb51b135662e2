-- Laws of lists that belong to no one part: the first elements, every element, runs, padded arrays.
pub mod Firsts
pub mod Every
pub mod Runs
pub mod Padded
