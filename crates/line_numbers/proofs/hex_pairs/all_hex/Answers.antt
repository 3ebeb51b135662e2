-- Each byte is looked at: all are hex digits if those so far are and those to come.
use Rattle.std.proofs.Common.{rules, tests}
use Rattle.std.proofs.lemmas.Iterator.{YieldsList-from_slice}
use Rattle.std.proofs.lemmas.Iterator.Consumers.{fold_from_yields_List}
use mathlib.Core.Path.{◌∙◌}
use mathlib.Core.Bool.{Bool, true, ◌&&◌}
use Prim.Native.Nat.{ℕ}
use Rattle.forms.specs.Form.{has}
use Rattle.definitions.specs.Numbers.{hex_digits}
use Rattle.line_numbers.proofs.HexForm.{each_folded}
use Rattle.line_numbers.proofs.hex_pairs.all_hex.Goals as goal

pub returns : goal.returns
returns c =
    fold_from_yields_List _ (λ (good : Bool) (b : ℕ). good && has hex_digits b) true c.fold.result c.fold.ensures.ran
    (YieldsList-from_slice c.args.s.now c.iter.ensures.rest) (λ a x b q k. search (rules, tests))
    ∙ each_folded (has hex_digits) true c.args.s.now
