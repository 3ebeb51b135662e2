-- Each field's bit is 0 or its weight, and the weights together are 63.
use Rattle.replay_records.specs.RecordBytes.{field_bits}
use Rattle.replay_records.proofs.heads.field_bits.Goals as goal

pub returns : goal.returns
unfolding field_bits
returns c = rw (
  c.field_bit.ensures,
  c.field_bit-2.ensures,
  c.field_bit-3.ensures,
  c.field_bit-4.ensures,
  c.field_bit-5.ensures,
  c.field_bit-6.ensures,
)
