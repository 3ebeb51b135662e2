-- The parts are put one after the other, and go together to the canonical text (`canonical_parts`); how many pattern bytes are in use plays no part in it.
use mathlib.Core.Path.{◌∙◌}
use Rattle.definitions.specs.Tables.{table_with}
use Rattle.write_keywords.proofs.Options.{flow_option_lem}
use Rattle.write_canonical.proofs.Canonical.{canonical_parts}
use Rattle.write_bytes.proofs.Putting.{then, told}
use Rattle.write_canonical.proofs.put_canonical.Goals as goal

pub returns : goal.returns
returns c =
    let x = c.args in
    let flow = flow_option_lem x.flow ∙ c.flow_keyword.ensures.1 in
    λ used.
    told (canonical_parts (table_with x.name x.len x.protocol x.flow x.bytes.now used x.items x.count))
    (then c.put_word-a1.ensures
    (then c.put_name-a2.ensures
    (then c.put_protocol-a3.ensures (then (told flow c.put_keyword-a4.ensures) (then c.put_items-a5.ensures c.put_word.ensures)))))
