use Rattle.line_numbers.proofs.Digits.{Kept}
use Rattle.line_numbers.proofs.decimals.parse_decimal.Given as goal

abbrev pub invariant-loop-b : goal.invariant-loop-b
invariant-loop-b l = Kept l.limit l.s l.v l.b-index
