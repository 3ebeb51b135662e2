use mathlib.Core.Path.{◌≡◌, sym, ap}
use mir.Syntax.{w32}
use mir.Val.{to_z, of_z}
use Rattle.definitions.specs.Canonical.{decimalℤ, modifier_text}
use Rattle.write_bytes.proofs.Putting.{then, told}
use borrow.Author.Rules.{rules}
use Rattle.write_patterns.proofs.put_distance_value.Goals as goal

pub returns : goal.returns
unfolding modifier_text
returns c =
    let offset = c.args.d.offset in
    let z : to_z w32 (of_z w32 offset) ≡ offset = search rules in
    let value = then (told (ap decimalℤ (sym z)) c.put_signed-a2.ensures)
    (then (told c.reference_keyword.ensures.1 c.put_keyword-a3.ensures) c.put_if-a4.ensures) in
    then c.put_word-a1.ensures (then value c.put.ensures)
