use mathlib.Core.Path.{◌∙◌}
use native.Mathlib.Omega.{arith}
use lib.Dec.{leb}
use borrow.Author.Tests.{leb-true, leb-false}
use Rattle.forms.proofs.Bools.{by_cases}
use Rattle.write_bytes.specs.Clipped.{at_most}
use Rattle.write_bytes.proofs.limits.at_most.Goals as goal

pub returns : goal.returns
unfolding at_most
returns c =
    let n = c.args.n in
    let most = c.args.most in
    c.min.ensures ∙ by_cases (leb n most) (λ t. rw t (omega (arith, leb-true n most t))) (λ f. rw f (omega (arith, leb-false n most f)))
