-- A replay of a trace through a rule book. Document 02, T-05.
pub mod Traces
pub mod Replays
pub mod ReplayCases
