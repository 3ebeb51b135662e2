-- The run of the class from the front is the run of the definition's test.
use mathlib.Core.Path.{◌≡◌, ◌∙◌}
use native.Mathlib.Nat.{zero-add}
use Prim.Native.Nat.{ℕ}
use Rattle.forms.specs.Form.{has}
use Rattle.forms.proofs.Bools.{or-false}
use Rattle.definitions.specs.Options.{printable}
use Rattle.scan_bytes.specs.Classes.{class_of}
use Rattle.scan_bytes.specs.declared.bytes.Class.TheVariants.{Printable}
use Rattle.list_laws.proofs.Runs.{run_same}
use Rattle.read_frame.proofs.printable_run.Goals as goal

printable-bytes : (b : ℕ) → has (class_of Printable) b ≡ printable b
unfolding has printable
printable-bytes b = or-false _

pub returns : goal.returns
returns c = c.run_of.ensures ∙ zero-add _ ∙ run_same (has (class_of Printable)) printable printable-bytes c.args.s.now
