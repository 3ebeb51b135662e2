-- What the contracts of `read_insert_counted` cite.
pub mod Counting
