-- The text of a start, as it stands in a placement's text such as `(2,3)`. docs/vectors/README.md has it in words.
use Rattle.std.specs.Prelude.{ℕ, List}
use Rattle.definitions.specs.declared.packets.Start.{Start}
use Rattle.definitions.specs.Canonical.{decimal}

abbrev pub start_text : Start → List ℕ
start_text s = decimal s.at
