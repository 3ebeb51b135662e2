-- Beyond the limit of a line, any more of its bytes change no answer: it is `bad`.
use mathlib.Core.Path.{◌≡◌}
use mathlib.Core.List.{List}
use Prim.Native.Nat.{ℕ, ◌<◌}
use lib.ListN.{take}
use Rattle.forms.specs.Bytes.{text}
use Rattle.decision_lines.specs.DecisionLines.{max_line, decision_answer}
use Rattle.decision_lines.proofs.Columns.{long_line}
use Rattle.line_stream.proofs.Keeping.{kept_beyond}

pub kept_decision : (m : ℕ) (s : List ℕ) → max_line < m → decision_answer (take m s) ≡ decision_answer s
kept_decision = kept_beyond decision_answer max_line (text "bad") long_line
