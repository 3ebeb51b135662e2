use mathlib.Core.Path.{refl}
use Rattle.scan_pieces.proofs.Wording.{keyword_reads}
use Rattle.scan_steps.proofs.words.then_keyword.Goals as goal

pub returns : goal.returns
returns g c = record { reads = keyword_reads c.args.w.now c.args.value c.requires c.then_word.ensures; says = refl }
