-- Equality of tables by computing. proofs/Exactly.antt: it is equality.
pub mod SameTables
