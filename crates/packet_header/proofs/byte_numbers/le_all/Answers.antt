-- The loop has read the last bytes, which are the first of the reversed ones. Four bytes at most are below 2 ^ 32, so nothing wraps.
use mathlib.Core.Path.{refl, ◌∙◌}
use mathlib.Core.List.{reverse}
use Prim.Native.Nat.{◌+◌, ◌≤◌}
use lib.ListN.{length, length-reverse}
use native.Mathlib.Omega.{arith}
use Rattle.std.proofs.lemmas.Iterator.Adapters.{YieldsList-from_rev_slice}
use Rattle.std.proofs.lemmas.Iterator.Consumers.{YieldsList-turn, YieldsList-end}
use Rattle.std.proofs.lemmas.List.{length_push}
use Rattle.definitions.specs.Packet.{big_endian}
use Rattle.packet_header.proofs.Reversed.{reverse_bytes, next_read}
use Rattle.packet_header.proofs.Widths.{be_more, more_fits}
use Rattle.packet_header.proofs.byte_numbers.le_all.Goals as goal

pub loop-b-init : goal.loop-b-init
unfolding big_endian
loop-b-init c = refl

pub overflow_mul-v : goal.overflow_mul-v
overflow_mul-v c =
    let d = c.args.d.now in
    let l = c.loop-b in
    let turn = YieldsList-turn (YieldsList-from_rev_slice d cc) l.yielded _ l.yielded_by _ _ c.in-Some.b c.in-Some.is c.next.ensures.steps in
    let four : length l.yielded + 1 ≤ 4 = omega (arith, turn.0, length-reverse d, c.requires) in
    omega (arith, more_fits (reverse d) (reverse_bytes d (λ k. (c.type_inv.d k).fits)) 0 _ _ _ l.invariant refl four)

pub overflow_add-v : goal.overflow_add-v
overflow_add-v c =
    let d = c.args.d.now in
    let l = c.loop-b in
    let turn = YieldsList-turn (YieldsList-from_rev_slice d cc) l.yielded _ l.yielded_by _ _ c.in-Some.b c.in-Some.is c.next.ensures.steps in
    let read = c.from.ensures ∙ next_read d _ _ turn.0 turn.1 in
    let four : length l.yielded + 1 ≤ 4 = omega (arith, turn.0, length-reverse d, c.requires) in
    omega (arith, more_fits (reverse d) (reverse_bytes d (λ k. (c.type_inv.d k).fits)) 0 _ _ _ l.invariant read four)

pub loop-b-preserved : goal.loop-b-preserved
loop-b-preserved c =
    let d = c.args.d.now in
    let l = c.loop-b in
    let turn = YieldsList-turn (YieldsList-from_rev_slice d cc) l.yielded _ l.yielded_by _ _ c.in-Some.b c.in-Some.is c.next.ensures.steps in
    let read = c.from.ensures ∙ next_read d _ _ turn.0 turn.1 in
    rw (length_push l.yielded c.in-Some.b, read, l.invariant) (be_more (length l.yielded) (reverse d) 0)

pub returns : goal.returns
returns c =
    let d = c.args.d.now in
    let l = c.loop-b in
    let done = YieldsList-end (YieldsList-from_rev_slice d cc) l.yielded _ l.yielded_by _ _ c.in-None.is c.next.ensures.steps in
    rw (← length-reverse d, ← done.1) l.invariant
