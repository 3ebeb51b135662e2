-- The test of a table's items. Section "Numbers of refusal", 20.
use Rattle.std.specs.Prelude.{ℕ, ◌-◌, Bool, ◌&&◌, List, length, take, drop, eqb, leb, None}
use Rattle.definitions.specs.declared.table.Pattern.{Pattern}
use Rattle.definitions.specs.declared.table.Slot.{Slot}
use Rattle.definitions.specs.Limits.{max_patterns, max_tests, max_items}
use Rattle.definitions.specs.Lists.{all?}
use Rattle.definitions.specs.Items.{patterns_of}
use Rattle.definitions.specs.References.{usable_run}
use Rattle.definitions.specs.WellFormed.{slot_fits, slot_unused, bytes_of}

-- the patterns, the slots in use, and all slots, where so many are in use, and so many bytes
abbrev pub patterns_fit : ℕ → ℕ → List Pattern → Bool
patterns_fit count used ps =
    leb (length ps) max_patterns
    && (leb (count - length ps) max_tests && (eqb used (bytes_of ps) && eqb (usable_run None ps) (length ps)))

unfoldable pub slots_fit : ℕ → ℕ → List Slot → Bool
slots_fit count used sls = all? slot_fits sls && patterns_fit count used (patterns_of sls)

unfoldable pub items_well : List Slot → ℕ → ℕ → Bool
items_well items count used = leb count max_items && (slots_fit count used (take count items) && all? slot_unused (drop count items))
