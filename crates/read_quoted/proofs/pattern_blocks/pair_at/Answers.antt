use mathlib.Core.Path.{sym, ◌∙◌}
use native.Mathlib.Omega.{arith}
use Rattle.read_quoted.proofs.Hexes.{pair_none, pair_half, pair_fits, pair-whole}
use Rattle.read_quoted.proofs.pattern_blocks.pair_at.Goals as goal

pub returns-then-not-is_hex_at : goal.returns-then-not-is_hex_at
returns-then-not-is_hex_at c = pair_none _ _ c.requires (sym c.is_hex_at.ensures ∙ c.if-not-is_hex_at.true)

pub returns-then-not-is_hex_at-2 : goal.returns-then-not-is_hex_at-2
returns-then-not-is_hex_at-2 c = pair_half _ _ (sym c.is_hex_at.ensures ∙ c.if-not-is_hex_at.false) (sym c.is_hex_at-2.ensures ∙ c.if-not-is_hex_at-2.true)

pub overflow_cast-result : goal.overflow_cast-result
overflow_cast-result c =
    let one = sym c.is_hex_at.ensures ∙ c.if-not-is_hex_at.false in
    let two = sym c.is_hex_at-2.ensures ∙ c.if-not-is_hex_at-2.false in
    omega (arith, pair_fits c.args.s.now c.args.at one two _ c.value_of.ensures)

pub returns : goal.returns
returns c =
    let one = sym c.is_hex_at.ensures ∙ c.if-not-is_hex_at.false in
    let two = sym c.is_hex_at-2.ensures ∙ c.if-not-is_hex_at-2.false in
    pair-whole _ _ one two _ c.value_of.ensures
