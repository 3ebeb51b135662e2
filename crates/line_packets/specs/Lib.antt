-- What the contracts of `line_packets` cite.
pub mod Directions
pub mod Packets
