use native.Mathlib.Omega.{arith}
use Rattle.write_bytes.proofs.Whole.{put_at_once}
use Rattle.write_bytes.proofs.put_whole.Goals as goal

pub returns : goal.returns
returns c =
    let x = c.args in
    put_at_once x.out.now x.at x.w.now c.requires.0 c.requires.1 (omega arith) c.copy_from_slice.ensures.after
