-- The slots counted are the positive patterns, whatever the pattern bytes.
use Rattle.std.proofs.Common.{rules, count_by, take}
use mathlib.Core.Path.{◌≡◌, sym, ◌∙◌}
use Rattle.match_answers.specs.PositivePatterns.{is_positive}
use Rattle.match_answers.proofs.PositiveCounts.{positives_counted}
use Rattle.match_answers.proofs.positives.positive_count.Goals as goal

pub returns : goal.returns
returns c = λ b.
    let slots = take c.args.count c.args.items in
    let counted : c.count.result ≡ count_by is_positive slots = search rules in
    counted ∙ sym (positives_counted slots b)
