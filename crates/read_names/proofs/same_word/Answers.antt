-- The library's answer is true exactly if both fold to the same, and so is the definition's.
use mathlib.Core.Path.{◌≡◌, sym, ◌∙◌}
use mathlib.Core.Bool.{true}
use Rattle.forms.specs.Bytes.{same_word}
use Rattle.forms.proofs.Bools.{by_cases}
use Rattle.read_names.proofs.SameWord.{same_if, same_only}
use Rattle.read_names.proofs.same_word.Goals as goal

pub returns : goal.returns
returns c =
    let x = c.args.x.now in
    let w = c.args.w.now in
    let r = c.eq_ignore_ascii_case in
    by_cases (same_word x w)
    (λ t. r.ensures.test.1 (same_only x w c.requires t) ∙ sym t)
    (λ f. by_cases r.result (λ t. let s : same_word x w ≡ true = same_if x w c.requires (r.ensures.test.0 t) in cc) (λ u. u ∙ sym f))
