-- The library compares the front of what stands from the place on with `--`.
use mathlib.Core.Path.{ap, ◌∙◌}
use Prim.Native.Nat.{◌-◌}
use lib.ListN.{length, take, drop}
use borrow.Author.Rules.{part_to_end}
use Rattle.forms.specs.Bytes.{text}
use Rattle.definitions.specs.Reading.{dashes}
use Rattle.read_frame.proofs.Fronts.{same_front}
use Rattle.read_frame.proofs.dashes_at.Goals as goal

pub returns : goal.returns
returns c =
    let s = c.args.s.now in
    let at = c.args.at in
    c.starts_with.ensures.value ∙ same_front (text "--") (take 2 (take (length s - at) (drop at s))) ∙ ap dashes (part_to_end s at)
