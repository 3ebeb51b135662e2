use mathlib.Core.Path.{◌≡◌}
use mathlib.Core.List.{List}
use Prim.Native.Nat.{◌-◌, ◌≤◌}
use lib.ListN.{length, drop}
use Rattle.definitions.specs.Limits.{document_limits}
use Rattle.definitions.specs.Reading.{Located, at_letter, options, finished, read}
use Rattle.read_state.specs.State.{Holds}
use Rattle.reader.proofs.read_options.Given as goal

abbrev pub invariant-loop-at : goal.invariant-loop-at
invariant-loop-at l = (located : List Located) × Holds l.s located l.st l.bytes l.items × (l.st.used ≤ l.at) × (l.at ≤ length l.s) × (length l.s ≤ document_limits.text)
    × (read document_limits l.s ≡ finished document_limits.room l.s (options at_letter l.s (drop l.at l.s) 0 l.at located))

abbrev pub decreases-loop-at : goal.decreases-loop-at
decreases-loop-at l = length l.s - l.at
