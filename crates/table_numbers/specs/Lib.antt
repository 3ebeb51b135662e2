-- An item in numbers, so that two can be compared. proofs/ItemsBack.antt: it can be told from them.
pub mod ItemNumbers
