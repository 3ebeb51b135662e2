-- How the parts of an item's text go together.
pub mod Items
