use mathlib.Core.Path.{refl, sym, ap, ◌∙◌}
use native.Mathlib.Omega.{arith}
use lib.ListN.{length}
use lib.Seq.{length-take-le}
use Rattle.definitions.specs.OptionValues as entry
use Rattle.definitions.specs.Canonical.{option_text}
use Rattle.write_bytes.proofs.Clipping.{at_most_le, taken_most}
use Rattle.write_bytes.proofs.Putting.{then, told}
use Rattle.write_keywords.proofs.Options.{context_option_lem}
use Rattle.write_patterns.proofs.OptionTexts.{pattern_options_lem, no_case_text}
use Rattle.write_patterns.proofs.put_pattern.Goals as goal

pub slice_bounds-put_quoted-end : goal.slice_bounds-put_quoted-end
slice_bounds-put_quoted-end c =
    let x = c.args in
    let few = at_most_le x.p.len (length x.b.now) in
    sym (length-take-le c.at_most-n.result x.b.now (omega (arith, c.at_most-n.ensures, few)))

pub returns : goal.returns
returns c =
    let p = c.args.p in
    let b = c.args.b.now in
    let quoted = ap (λ l. option_text (entry.Pattern p.negated l)) (taken_most p.len b refl c.at_most-n.ensures) in
    let context = context_option_lem p.context ∙ c.context_keyword.ensures.1 in
    told (pattern_options_lem p b)
    (then (told quoted c.put_quoted-a1.ensures)
    (then (told context c.put_keyword-a2.ensures)
    (then (told (no_case_text p.nocase) c.put_if-a3.ensures) (then c.put_distance-a4.ensures c.put_within.ensures))))
