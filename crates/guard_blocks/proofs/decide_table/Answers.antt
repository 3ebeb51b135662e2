-- The loop keeps `Renumbering`; a packet's number is set exactly if it is open and the table meets the packet, which one passed over is not.
use mathlib.Core.Path.{sym, ap, ◌∙◌}
use Prim.Native.Nat.{ℕ, ◌<◌}
use native.Mathlib.Omega.{arith}
use borrow.Author.Rules.{part_to_end}
use mathlib.Core.List.{List}
use Rattle.definitions.specs.Blocks.{record_length, record_of}
use Rattle.matcher.proofs.Matching.{formed_matchable}
use Rattle.guard_blocks.specs.Numbering.{meets_record}
use Rattle.guard_blocks.proofs.Records.{head_within, whole_part, open_met, unmet, closed_kept, may_told, record_passed}
use Rattle.guard_blocks.proofs.Renumbering.{renumbering_in, renumbering_out, renumbering-kept, renumbering-set, here-whole, step_within, here-room}
use Rattle.guard_blocks.proofs.decide_table.Goals as goal
use Rattle.guard_blocks.proofs.decide_table.Goals.{then-is_open+then-may_meet+then-meets, then-is_open+then-may_meet+else-meets, then-is_open+else-may_meet, else-is_open}

pub loop-i-init : goal.loop-i-init
loop-i-init c = renumbering_in (meets_record c.args.t) c.args.answer c.args.block.now c.args.packets c.args.out.now c.requires.1.0

pub slice_bounds-s-count : goal.slice_bounds-s-count
slice_bounds-s-count c = c.loop-i.invariant.within

pub slice_bounds-s-start : goal.slice_bounds-s-start
slice_bounds-s-start c = omega (arith, c.loop-i.invariant.within)

pub slice_bounds-s-end : goal.slice_bounds-s-end
slice_bounds-s-end c = omega (arith, c.loop-i.invariant.within)

pub bounds-out-i : goal.bounds-out-i
bounds-out-i c = here-room (meets_record c.args.t) c.args.answer c.loop-i.invariant
    (omega arith) c.requires.1.1

pub may_meet-requires : goal.may_meet-requires
may_meet-requires c = whole_part c.loop-i.at c.args.block.now
    (here-whole (meets_record c.args.t) c.args.answer c.loop-i.invariant (omega arith) c.requires.1.1)

pub meets-requires : goal.meets-requires
meets-requires c = (
  formed_matchable c.args.t c.requires.0 (omega arith),
  whole_part c.loop-i.at c.args.block.now
      (here-whole (meets_record c.args.t) c.args.answer c.loop-i.invariant (omega arith) c.requires.1.1),
)

pub bounds-out-i-then-meets : goal.bounds-out-i-then-meets
bounds-out-i-then-meets c = here-room (meets_record c.args.t) c.args.answer c.loop-i.invariant (omega arith) c.requires.1.1

pub record_length-at-requires : goal.record_length-at-requires
record_length-at-requires c = head_within _
    (whole_part c.loop-i.at c.args.block.now
    (here-whole (meets_record c.args.t) c.args.answer c.loop-i.invariant (omega arith) c.requires.1.1))

pub overflow_add-at : goal.overflow_add-at
overflow_add-at c =
    let n = c.record_length-at.ensures ∙ ap record_length (part_to_end c.args.block.now c.loop-i.at) in
    omega
    (arith, n, step_within (meets_record c.args.t) c.args.answer c.loop-i.invariant (omega arith) c.requires.1.1)

pub loop-i-preserved : goal.loop-i-preserved
loop-i-preserved c =
    let x = c.args in
    let part = part_to_end x.block.now c.loop-i.at in
    let n = c.record_length-at.ensures ∙ ap record_length part in
    let more : c.loop-i.i < x.packets = omega arith in
    let kept = renumbering-kept (meets_record x.t) x.answer c.loop-i.invariant more c.requires.1.1 in
    let met = renumbering-set (meets_record x.t) x.answer c.loop-i.invariant more c.requires.1.1 in
    elim c.if-is_open.branch [
      | then-is_open+then-may_meet+then-meets w ↦
          rw (w.out-is, n)
          (met (open_met _ _ w.if-is_open.true (sym (ap (λ (s : List ℕ). meets_record x.t (record_of s)) part) ∙ sym (w.meets.ensures x.t.name x.t.len x.t.used c.requires.0) ∙ w.if-meets.true)))
      | then-is_open+then-may_meet+else-meets w ↦
          rw (w.out-is, n)
          (kept (unmet _ _ (sym (ap (λ (s : List ℕ). meets_record x.t (record_of s)) part) ∙ sym (w.meets.ensures x.t.name x.t.len x.t.used c.requires.0) ∙ w.if-meets.false)))
      | then-is_open+else-may_meet w ↦
          rw (w.out-is, n) (kept (unmet _ _ (record_passed x.t _ (sym (may_told x.t part) ∙ sym w.may_meet.ensures ∙ w.if-may_meet.false))))
      | else-is_open w ↦ rw (w.out-is, n) (kept (closed_kept _ _ w.if-is_open.false))
    ]

pub returns : goal.returns
returns c = renumbering_out (meets_record c.args.t) c.args.answer c.loop-i.invariant (omega arith)
