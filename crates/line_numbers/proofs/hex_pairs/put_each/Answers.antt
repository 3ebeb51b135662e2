-- Pair by pair: what is still to be put from here on are the pairs from the loop's place on.
use mathlib.Core.Path.{◌≡◌, sym, ap, ◌∙◌}
use Prim.Native.Nat.{ℕ, ◌+◌, ◌*◌, ◌≤◌, ◌<◌}
use native.Mathlib.Omega.{arith}
use lib.ListN.{length, drop}
use Rattle.definitions.specs.Cases.{pairs}
use Rattle.write_bytes.specs.Puts.{puts}
use Rattle.line_numbers.proofs.HexBytes.{pair_hex, pair-on, pairs_out}
use Rattle.line_numbers.proofs.hex_pairs.put_each.Goals as goal

pub pair_byte-requires : goal.pair_byte-requires
pair_byte-requires c = pair_hex c.args.s.now (2 * c.loop-j.j) _ c.requires (omega arith) c.two_at.ensures

pub loop-j-preserved : goal.loop-j-preserved
loop-j-preserved c =
    let l = c.loop-j in
    let s = c.args.s.now in
    let pair : 2 * l.j + 1 < length s = omega arith in
    let next : 2 * l.j + 2 ≡ 2 * (l.j + 1) = omega arith in
    l.invariant
    ∙ pair-on s (2 * l.j) _ c.requires pair c.two_at.ensures _ c.pair_byte.ensures c.put-next.ensures
    ∙ ap (λ (n : ℕ). puts c.put-next.new.out c.put-next.result (pairs (drop n s))) next

pub returns : goal.returns
unfolding puts
returns c =
    let l = c.loop-j in
    let s = c.args.s.now in
    let end : length s ≤ 2 * l.j + 1 = omega arith in
    record { is = sym (l.invariant ∙ ap (puts l.out l.next) (pairs_out s (2 * l.j) end)) }
