-- The records that are answered are within what was read.
use Rattle.std.proofs.Common.{◌-◌, arith, rules}
use Rattle.blocks.proofs.Bytes.{answered_within}
use Rattle.blocks.proofs.decide.Goals as goal

pub keep_rest-requires : goal.keep_rest-requires
keep_rest-requires g c =
    let most = answered_within (c.args.end - 0) c.args.block.now _ c.decide_block-answered.ensures.answered in
    (omega (arith, most), search rules)
