-- The bytes before the first LF and the LF, or all bytes if there is none.
use mathlib.Core.Path.{◌≡◌, ap}
use Prim.Native.Nat.{suc, ◌+◌}
use native.Mathlib.Omega.{arith}
use lib.ListN.{length}
use Rattle.definitions.specs.Parts.{find}
use Rattle.line_parts.proofs.Delimiters.{before_length}
use Rattle.rule_book.proofs.Loading.{line_is, line_all}
use Rattle.rule_book.proofs.first_line.Goals as goal

pub returns-then-n-s : goal.returns-then-n-s
returns-then-n-s c =
    let s = c.args.s.now in
    let b = c.part_before-n in
    let n : length b.result.now + 1 ≡ suc (find 10 s) = omega (arith, ap length b.ensures, before_length 10 s) in
    line_is s n

pub returns-else-n-s : goal.returns-else-n-s
returns-else-n-s c =
    let s = c.args.s.now in
    let b = c.part_before-n in
    line_all s (omega (arith, c.if-n-s.false, ap length b.ensures, before_length 10 s))
