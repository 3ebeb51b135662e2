-- Byte by byte: so far none is b if so many bytes stand before the first b.
use mathlib.Core.Path.{◌≡◌, sym, ap, ◌∙◌}
use mathlib.Core.Bool.{Bool, not, ◌&&◌}
use Prim.Native.Nat.{ℕ, ◌+◌, ◌-◌, ◌<◌}
use native.Mathlib.Omega.{arith}
use lib.Dec.{eqb, leb}
use lib.ListN.{get_or, drop, length-take, length-drop}
use lib.Seq.{get_or-take, get_or-drop}
use Rattle.definitions.specs.Parts.{find}
use Rattle.scan_find.proofs.Groups.{group_more}
use Rattle.scan_find.proofs.none_in_group.Goals as goal

pub loop-x-preserved : goal.loop-x-preserved
loop-x-preserved c =
    let x = c.args in
    let l = c.loop-x in
    let rest = drop x.at x.s.now in
    let inside : l.x-index < x.at + 32 - x.at = omega (arith, length-take (x.at + 32 - x.at) rest) in
    let byte = get_or-take (x.at + 32 - x.at) rest l.x-index 0 inside ∙ get_or-drop x.at x.s.now l.x-index 0 in
    ap (λ (y : ℕ). l.none && not (eqb y x.b)) byte
    ∙ ap (λ (t : Bool). t && not (eqb (get_or x.s.now (x.at + l.x-index) 0) x.b)) l.invariant
    ∙ sym (group_more x.s.now x.b x.at l.x-index (omega arith))

pub returns : goal.returns
returns c =
    let x = c.args in
    let l = c.loop-x in
    let whole : l.x-index ≡ 32 = omega (arith, length-take (x.at + 32 - x.at) (drop x.at x.s.now), length-drop x.at x.s.now) in
    l.invariant ∙ ap (λ (k : ℕ). leb k (find x.b (drop x.at x.s.now))) whole
