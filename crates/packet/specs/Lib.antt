-- What the contracts of `packet` cite besides the definitions.
pub mod Datagram
