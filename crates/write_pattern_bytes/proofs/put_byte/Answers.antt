use mathlib.Core.Path.{ap}
use Prim.Native.Nat.{◌/◌, ◌%◌}
use Rattle.write_pattern_bytes.specs.Parts.{byte_text}
use Rattle.write_pattern_bytes.proofs.Bytes.{hex_pair_lem}
use Rattle.write_bytes.proofs.Putting.{then, told}
use Rattle.write_pattern_bytes.proofs.put_byte.Goals as goal

pub returns-then-plain : goal.returns-then-plain
unfolding byte_text
returns-then-plain c = told (ap (λ t. byte_text c.args.opened t c.args.b) c.if-plain.true) (then c.put_if-a1.ensures c.put.ensures)

pub returns : goal.returns
unfolding byte_text
returns c =
    let x = c.args in
    let digits = hex_pair_lem (x.b / 16) (x.b % 16) c.hex_digit-high.ensures c.hex_digit-low.ensures in
    told (ap (λ t. byte_text x.opened t x.b) c.if-plain.false)
    (then c.put_if-a1-2.ensures (told digits (then c.put-a2.ensures c.put-2.ensures)))
