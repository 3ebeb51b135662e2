use mathlib.Core.Path.{ap, ◌∙◌}
use Prim.Native.Nat.{ℕ, ◌+◌, ◌-◌, ◌*◌, ◌≤◌, ◌<◌}
use native.Mathlib.Omega.{arith}
use lib.ListN.{get_or, take, drop, length-take}
use lib.Seq.{get_or-take, get_or-drop}
use Rattle.definitions.specs.Limits.{max_byte}
use Rattle.scan_bytes.specs.Capped.{capped}
use Rattle.scan_bytes.proofs.Saturation.{sum_on, sum_out, least_capped, product_fits, digit_le}
use Rattle.scan_bytes.proofs.numbers.value_of.Goals as goal

pub overflow_add-v : goal.overflow_add-v
overflow_add-v c =
    let x = c.args in
    let i = c.loop-b.b-index in
    let n = x.end - x.at in
    let rest = drop x.at x.s.now in
    let inside : i < n = omega (arith, length-take n rest) in
    let small : c.digit_value.result ≤ max_byte = omega (arith, c.digit_value.ensures, digit_le (get_or (take n rest) i 0), get_or-take n rest i 0 inside, get_or-drop x.at x.s.now i 0, c.type_inv.s (x.at + i)) in
    omega (arith, product_fits c.loop-b.v x.base c.digit_value.result c.loop-b.invariant.1.small c.requires.3 small)

pub loop-b-preserved : goal.loop-b-preserved
loop-b-preserved c = (
  c.loop-b.invariant.0,
  sum_on _ _ _ _ _ c.loop-b.invariant.1 c.loop-b-test.true _
      (c.min-v.ensures ∙ least_capped _ ∙ ap (λ (d : ℕ). capped (c.loop-b.v * c.args.base + d)) c.digit_value.ensures),
)

pub returns : goal.returns
returns c = sum_out _ _ _ _ _ c.loop-b.invariant.1 c.loop-b-test.false
