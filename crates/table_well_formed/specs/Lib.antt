-- What the contracts of `table_well_formed` cite: the test of a table's items.
pub mod ItemsTest
