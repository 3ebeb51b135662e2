-- The test is computed over the code's own table.
use mathlib.Core.Path.{refl}
use Rattle.forms.specs.Bytes.{lower}
use Rattle.match_folding.proofs.Entries.{table_folds}
use Rattle.match_folding.proofs.fold_table.Goals as goal

pub returns : goal.returns
unfolding lower
returns c = table_folds _ refl refl
