-- Byte by byte: what is still to be put is the text of the bytes from the loop's place on.
use mathlib.Core.Path.{sym, ap, ◌∙◌}
use mathlib.Core.Bool.{Bool, not}
use mathlib.Core.List.{List, ◌++◌}
use Prim.Native.Nat.{ℕ, ◌+◌}
use native.Mathlib.Omega.{arith}
use lib.ListN.{drop, get_or}
use Rattle.definitions.specs.Canonical.{pattern_text}
use Rattle.write_bytes.specs.Puts.{puts}
use Rattle.write_bytes.proofs.Putting.{onward}
use Rattle.write_pattern_bytes.specs.Parts.{byte_text}
use Rattle.write_pattern_bytes.proofs.Bytes.{bytes_on, bytes_end}
use Rattle.write_pattern_bytes.proofs.put_bytes.Goals as goal

pub loop-x-preserved : goal.loop-x-preserved
loop-x-preserved c =
    let b = c.args.b.now in
    let loop = c.loop-x in
    let plain = c.is_plain-plain in
    let x = get_or b loop.x-index 0 in
    let rest : Bool → List ℕ = λ t. byte_text loop.opened t x ++ pattern_text (not t) (drop (loop.x-index + 1) b) in
    loop.invariant
    ∙ ap (puts loop.out loop.next) (bytes_on loop.opened b loop.x-index (omega arith) ∙ ap rest (sym plain.ensures))
    ∙ onward (pattern_text (not plain.result) (drop (loop.x-index + 1) b)) c.put_byte-next.ensures

pub returns : goal.returns
returns c =
    let l = c.loop-x in
    let end = bytes_end l.opened c.args.b.now l.x-index (omega arith) in
    record { is = c.put_if.ensures.is ∙ sym (l.invariant ∙ ap (puts l.out l.next) end) }
