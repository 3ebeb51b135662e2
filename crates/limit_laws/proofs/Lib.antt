-- What is the same under two limits of which one allows more.
pub mod WidenedTables
pub mod WidenedReading
pub mod WidenedWriting
pub mod WidenedAnswers
pub mod LongerBooks
pub mod LongerTexts
pub mod Named
