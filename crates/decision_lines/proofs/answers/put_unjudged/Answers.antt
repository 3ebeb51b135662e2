-- The word, the number, the space and the line, one after the other.
use mathlib.Core.Path.{sym, ap}
use mathlib.Core.List.{◌++◌}
use Prim.Native.Nat.{ℕ}
use Rattle.forms.specs.Bytes.{text}
use Rattle.definitions.specs.Canonical.{decimal}
use Rattle.write_bytes.proofs.Putting.{then, told}
use Rattle.decision_lines.specs.DecisionLines.{decision_text}
use Rattle.decision_lines.proofs.answers.put_unjudged.Goals as goal

pub returns : goal.returns
unfolding decision_text
returns c =
    let args = c.args in
    told
    (ap (λ (n : ℕ). text "refused " ++ (decimal n ++ (text " " ++ decimal args.line))) (sym c.number_of.ensures))
    (then c.put_word-a1.ensures (then c.put_decimal-a2.ensures (then c.put-a3.ensures c.put_decimal.ensures)))
