-- What is asked about is the record's packet, decoded buffer, direction and map.
use mathlib.Core.Path.{◌∙◌}
use native.Mathlib.Omega.{arith}
use Rattle.definitions.specs.Tables.{table_with}
use Rattle.guard_blocks.proofs.Records.{head_within, packet_within, decoded_within, packet_is, decoded_is, meets_told}
use Rattle.guard_blocks.proofs.meets.Goals as goal

pub record_fields-m-requires : goal.record_fields-m-requires
record_fields-m-requires c = head_within c.args.s.now c.requires.1

pub record_direction-dir-requires : goal.record_direction-dir-requires
record_direction-dir-requires c = head_within c.args.s.now c.requires.1

pub number_at-end-requires : goal.number_at-end-requires
number_at-end-requires c = omega (arith, head_within c.args.s.now c.requires.1)

pub overflow_add-end : goal.overflow_add-end
overflow_add-end c = omega (arith, packet_within c.args.s.now c.number_at-end.ensures c.requires.1)

pub number_at-requires : goal.number_at-requires
number_at-requires c = omega (arith, head_within c.args.s.now c.requires.1)

pub overflow_add-to : goal.overflow_add-to
overflow_add-to c = omega (arith, decoded_within c.args.s.now c.number_at-end.ensures c.number_at.ensures c.requires.1)

pub slice_bounds-meets-end : goal.slice_bounds-meets-end
slice_bounds-meets-end c = omega (arith, packet_within c.args.s.now c.number_at-end.ensures c.requires.1)

pub slice_bounds-meets-end-2 : goal.slice_bounds-meets-end-2
slice_bounds-meets-end-2 c = omega (arith, decoded_within c.args.s.now c.number_at-end.ensures c.number_at.ensures c.requires.1)

pub returns : goal.returns
returns c =
    let x = c.args in
    λ name len used w.
    c.meets.ensures name len used w
    ∙ meets_told (table_with name len x.protocol x.flow x.bytes.now used x.items x.count) x.s.now
    (packet_is x.s.now c.number_at-end.ensures) (decoded_is x.s.now c.number_at-end.ensures c.number_at.ensures)
    c.record_direction-dir.ensures c.record_fields-m.ensures
