-- How the parts of a pattern's text go together.
pub mod Signs
pub mod OptionTexts
