use Rattle.forms.specs.Form.{has}
use Rattle.list_laws.proofs.Runs.{Run}
use Rattle.scan_bytes.specs.Classes.{class_of}
use Rattle.scan_bytes.proofs.runs.run_of.Given as goal

abbrev pub invariant-loop-i : goal.invariant-loop-i
invariant-loop-i l = Run (has (class_of l.k)) l.s l.at l.i
