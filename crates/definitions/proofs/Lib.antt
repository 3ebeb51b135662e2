-- The definitions, computed.
pub mod Starred
pub mod LeftOut
pub mod Tables
pub mod EveryNumber
pub mod IpIdCases
pub mod ByteTestCases
pub mod OneByteDecides
pub mod Sample
pub mod OtherItems
