-- What the contracts of `replay_records` cite beside the definitions.
pub mod RecordBytes
