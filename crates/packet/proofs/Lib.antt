-- What the refusals leave, and the payload's place.
pub mod Passed
pub mod Payloads
