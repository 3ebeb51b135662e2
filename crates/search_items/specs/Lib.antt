-- What the contracts of `items` cite besides the definitions.
pub mod Items
