-- The run of the class is the run of the definition's test.
use mathlib.Core.Path.{ap, ◌∙◌}
use Prim.Native.Nat.{ℕ, ◌+◌}
use lib.ListN.{drop}
use Rattle.forms.specs.Form.{has}
use Rattle.definitions.specs.Options.{in_name}
use Rattle.scan_bytes.specs.Classes.{class_of}
use Rattle.scan_bytes.specs.declared.bytes.Class.TheVariants.{NameByte}
use Rattle.list_laws.proofs.Runs.{run_same}
use Rattle.read_names.proofs.NameBytes.{name_bytes}
use Rattle.read_names.proofs.name_end.Goals as goal

pub returns : goal.returns
returns c =
    let x = c.args in
    c.run_of.ensures ∙ ap (λ (n : ℕ). x.at + n) (run_same (has (class_of NameByte)) in_name name_bytes (drop x.at x.s.now))
