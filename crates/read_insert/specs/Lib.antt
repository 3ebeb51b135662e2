-- What the contracts of `read_insert` cite: the code's own steps on the state.
pub mod Inserting
pub mod Checking
