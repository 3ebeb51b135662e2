use mathlib.Core.Path.{◌≡◌, sym, ap}
use mir.Syntax.{w32}
use mir.Val.{to_z, of_z}
use Rattle.definitions.specs.Canonical.{decimal}
use Rattle.write_patterns.proofs.Signs.{kept_text}
use Rattle.write_bytes.proofs.Putting.{then, told}
use borrow.Author.Rules.{rules}
use Rattle.write_patterns.proofs.put_signed.Goals as goal

pub returns : goal.returns
returns c =
    let z : to_z w32 (of_z w32 c.args.z) ≡ c.args.z = search rules in
    told (kept_text c.args.z z) (then c.put_if-a1.ensures (told (ap decimal (sym c.magnitude.ensures)) c.put_decimal.ensures))
