-- What the contracts of `matcher` cite beside the definitions.
pub mod PassedOver
pub mod Matching
