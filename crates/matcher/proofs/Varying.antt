-- A VERDICT VARIES, by computation on the definitions: of a table that a text reads as, one packet's payload has the pattern and meets it, and another
-- packet, of the same length, does not.
use Rattle.std.specs.Prelude.{None, Result, Ok}
use mathlib.Core.Path.{◌≡◌, refl, ◌∙◌}
use mathlib.Core.Bool.{true, false, false≢true}
use mathlib.Core.List.{List, []}
use Prim.Native.Nat.{ℕ}
use Rattle.forms.specs.Bytes.{text}
use Rattle.definitions.specs.declared.table.Table.{Table}
use Rattle.definitions.specs.declared.packets.Direction.{Direction}
use Rattle.definitions.specs.declared.packets.Direction.TheVariants.{Client}
use Rattle.definitions.specs.declared.packets.FieldMap.{FieldMap}
use Rattle.definitions.specs.declared.answers.Verdict.{Verdict}
use Rattle.definitions.specs.declared.answers.Verdict.TheVariants.{Met, NotMet}
use Rattle.definitions.specs.declared.answers.Refusal.{Refusal}
use Rattle.definitions.specs.Limits.{document_limits}
use Rattle.definitions.specs.Reading.{accepted_reading, read}
use Rattle.definitions.specs.Answers.{verdict_answer}
use Rattle.definitions.specs.Cases.{signature, packet_with, uri_only}
use Rattle.definitions.specs.Computing.{computing}

abbrev pub x_table : Table
x_table = (read document_limits (signature "--pattern \"X\";")).table

pub x_read : read document_limits (signature "--pattern \"X\";") ≡ accepted_reading x_table
unfolding computing
x_read = refl

pub x_met : verdict_answer x_table (packet_with (text "aaXbbX")) [] Client (uri_only None) ≡ Ok Met
unfolding computing
x_met = refl

pub x_not_met : verdict_answer x_table (packet_with (text "aaxbbx")) [] Client (uri_only None) ≡ Ok NotMet
unfolding computing
x_not_met = refl

-- so no one verdict is right for every table, packet, buffer, direction and map
pub verdict_varies : (v : Result Verdict Refusal) → ((t : Table) (p decoded : List ℕ) (dir : Direction) (m : FieldMap) → v ≡ verdict_answer t p decoded dir m) → ⊥
verdict_varies v h =
    let met : v ≡ (Ok Met) = h x_table (packet_with (text "aaXbbX")) [] Client (uri_only None) ∙ x_met in
    let not-met : v ≡ (Ok NotMet) = h x_table (packet_with (text "aaxbbx")) [] Client (uri_only None) ∙ x_not_met in
    let clash : false ≡ true = cc in
    false≢true clash
