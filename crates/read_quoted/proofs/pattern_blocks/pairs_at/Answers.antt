-- Each turn reads a pair and stores its byte: what is stored is what is read, and what is still to come is what the form says from here on.
use mathlib.Core.Path.{sym, ◌∙◌}
use Rattle.read_quoted.proofs.Bytes.{pairs_halt, pair_room, pairs-less, pairs-on, pairs-last}
use Rattle.read_quoted.proofs.pattern_blocks.pairs_at.Goals as goal

pub returns-in_default : goal.returns-in_default
returns-in_default c = pairs_halt _ _ _ c.requires c.loop-end.invariant c.pair_at-p.ensures c.in_default.not-Parsed

pub put-to-requires : goal.put-to-requires
put-to-requires c = pair_room _ _ _ c.requires c.loop-end.invariant c.pair_at-p.ensures c.in-Parsed.is

pub returns-then-not-is_hex_at : goal.returns-then-not-is_hex_at
returns-then-not-is_hex_at c =
    let more = sym c.is_hex_at.ensures ∙ c.if-not-is_hex_at.true in
    pairs-last _ _ _ c.requires c.loop-end.invariant c.pair_at-p.ensures c.in-Parsed.is
    c.spaces_at-here.ensures.1 c.put-to.ensures more

pub loop-end-smaller : goal.loop-end-smaller
loop-end-smaller c = pairs-less _ _ _ c.requires c.loop-end.invariant c.pair_at-p.ensures c.in-Parsed.is
    c.spaces_at-here.ensures.1

pub loop-end-preserved : goal.loop-end-preserved
loop-end-preserved c =
    let more = sym c.is_hex_at.ensures ∙ c.if-not-is_hex_at.false in
    pairs-on _ _ _ c.requires c.loop-end.invariant c.pair_at-p.ensures c.in-Parsed.is
    c.spaces_at-here.ensures.1 c.put-to.ensures more
