-- The place found is the definitions' place; a part of the buffer named is the field.
use mathlib.Core.Path.{refl}
use Rattle.fields.proofs.Buffers.{field_part, field_bytes_lem}
use Rattle.fields.proofs.field_of.Goals as goal

pub returns : goal.returns
returns c =
    let a = c.args in
    let e = c.place_of-place.ensures a.payload.now refl in
    let h = rw e at c.part_of_one.ensures in
    let p = field_part a.payload a.decoded _ a.m a.c h in
    record {
      bytes = field_bytes_lem a.payload a.decoded _ a.m a.c p;
      part = p;
    }
