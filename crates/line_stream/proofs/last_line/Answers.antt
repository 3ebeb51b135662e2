-- No byte is kept.
use Rattle.std.proofs.lemmas.Bool.Decides.{nat_tests}
use mathlib.Core.Path.{◌≡◌}
use native.Mathlib.Omega.{arith}
use lib.ListN.{length, take}
use Rattle.line_stream.proofs.Taking.{lasts_none}
use Rattle.line_stream.proofs.last_line.Goals as goal

pub returns-then-is_empty : goal.returns-then-is_empty
returns-then-is_empty c =
    let none : length (take c.args.begun.len c.args.line.now) ≡ 0 = grind (arith, nat_tests, c.kept.ensures, c.if-is_empty.ensures) in
    lasts_none c.args.line.now c.args.begun none
