-- Beyond the limit of a line, any more of its bytes change no answer: it is `bad`.
use mathlib.Core.Path.{◌≡◌}
use mathlib.Core.List.{List}
use Prim.Native.Nat.{ℕ, ◌<◌}
use lib.ListN.{take}
use Rattle.forms.specs.Bytes.{text}
use Rattle.case_lines.specs.CaseLines.{max_line}
use Rattle.case_lines.specs.CaseAnswers.{case_answer}
use Rattle.case_lines.proofs.Columns.{long_line}
use Rattle.line_stream.proofs.Keeping.{kept_beyond}

pub kept_case : (m : ℕ) (s : List ℕ) → max_line < m → case_answer (take m s) ≡ case_answer s
kept_case = kept_beyond case_answer max_line (text "bad") long_line
