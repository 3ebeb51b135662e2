use mathlib.Core.Path.{sym, ap}
use mathlib.Core.List.{◌++◌}
use Prim.Native.Nat.{ℕ}
use Rattle.forms.specs.Bytes.{text}
use Rattle.definitions.specs.Canonical.{decimal}
use Rattle.write_bytes.proofs.Putting.{then, told}
use Rattle.case_lines.proofs.answers.put_unread.Goals as goal

pub returns : goal.returns
returns c =
    let args = c.args in
    told
    (ap (λ (n : ℕ). text "text " ++ (decimal n ++ (text " " ++ decimal args.place))) (sym c.number_of.ensures))
    (then c.put_word-a1.ensures (then c.put_decimal-a2.ensures (then c.put-a3.ensures c.put_decimal.ensures)))
