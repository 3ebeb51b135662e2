-- The part that is asked about is the record's packet.
use mathlib.Core.Path.{ap, ◌∙◌}
use mathlib.Core.List.{List}
use Prim.Native.Nat.{ℕ}
use native.Mathlib.Omega.{arith}
use Rattle.definitions.specs.Blocks.{record_of}
use Rattle.matcher.specs.PassedOver.{may_meet}
use Rattle.guard_blocks.proofs.Records.{head_within, packet_within, packet_is}
use Rattle.guard_blocks.proofs.may_meet.Goals as goal

pub number_at-end-requires : goal.number_at-end-requires
number_at-end-requires c = omega (arith, head_within c.args.s.now c.requires)

pub overflow_add-end : goal.overflow_add-end
overflow_add-end c = omega (arith, packet_within c.args.s.now c.number_at-end.ensures c.requires)

pub slice_bounds-may_meet-end : goal.slice_bounds-may_meet-end
slice_bounds-may_meet-end c = omega (arith, packet_within c.args.s.now c.number_at-end.ensures c.requires)

pub record_direction-requires : goal.record_direction-requires
record_direction-requires c = head_within c.args.s.now c.requires

pub returns : goal.returns
returns c =
    let x = c.args in
    c.may_meet.ensures
    ∙ ap (λ (p : List ℕ). may_meet x.protocol x.flow p c.record_direction.result) (packet_is x.s.now c.number_at-end.ensures)
    ∙ ap (may_meet x.protocol x.flow (record_of x.s.now).packet) c.record_direction.ensures
