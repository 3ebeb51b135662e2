-- Names for the words in the options' forms.
pub mod Words
