-- What the parts of a test's text are made of.
pub mod AddressLists
