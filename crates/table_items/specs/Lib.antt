-- What the contracts of `table_items` cite: the code's own steps over the slots.
pub mod Passing
