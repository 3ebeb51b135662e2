-- Names for the operators in the options' forms.
pub mod Operators
