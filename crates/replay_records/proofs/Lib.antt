-- A line of a trace as a record: that what is put is the record, and that a block of such records is read back as what the lines say.
pub mod MapNumbers
pub mod PairCounts
pub mod ReadHeads
pub mod Lines
pub mod Records
