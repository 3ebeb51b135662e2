-- Pair by pair: what is still to be put from here on are the pairs from the loop's place on; each has room and is counted (`pair-kept`).
use mathlib.Core.Path.{◌≡◌, sym, ap, ◌∙◌}
use Prim.Native.Nat.{ℕ, ◌+◌, ◌*◌, ◌/◌, ◌≤◌, ◌<◌}
use native.Mathlib.Omega.{arith}
use lib.ListN.{length}
use Rattle.write_bytes.specs.Puts.{max_counted, puts}
use Rattle.line_numbers.proofs.HexBytes.{pair_hex, pair-kept, pairs_out}
use Rattle.line_numbers.proofs.hex_pairs.put_whole.Goals as goal

pub pair_byte-requires : goal.pair_byte-requires
pair_byte-requires c = pair_hex c.args.s.now (2 * c.loop-j.j) _ c.requires.s_value (omega arith) c.two_at.ensures

pub loop-j-preserved : goal.loop-j-preserved
loop-j-preserved c =
    let l = c.loop-j in
    let x = c.args in
    let pair : 2 * l.j + 1 < length x.s.now = omega arith in
    let here : x.at + l.j < max_counted = omega arith in
    l.invariant ∙ pair-kept x.s.now l.j _ c.requires.s_value pair c.two_at.ensures c.pair_byte.result c.pair_byte.ensures l.out x.at here

pub returns : goal.returns
unfolding puts
returns c =
    let x = c.args in
    let l = c.loop-j in
    let all : l.j ≡ length x.s.now / 2 = omega arith in
    let end : length x.s.now ≤ 2 * l.j + 1 = omega arith in
    record { is = ap (λ (j : ℕ). (l.out, x.at + j)) (sym all) ∙ sym (l.invariant ∙ ap (puts l.out (x.at + l.j)) (pairs_out x.s.now (2 * l.j) end)) }
