-- Names for parts of numbers' forms.
pub mod Digits
