-- What the slots of a table that are passed so far come to, and one slot more. Section "Numbers of refusal", 20.
use Rattle.std.specs.Prelude.{◌≡◌, ℕ, ◌+◌, ◌-◌, ◌<◌, Bool, true, ◌&&◌, eqb, leb, None}
use Rattle.definitions.specs.declared.table.Pattern.{Pattern}
use Rattle.definitions.specs.declared.table.Slot.{Slot}
use Rattle.definitions.specs.Limits.{max_patterns, max_tests, max_items}
use Rattle.definitions.specs.Items.{Kind, unused, addressed, patterned, plain_test, kind_of}
use Rattle.definitions.specs.Starts.{start_at}
use Rattle.definitions.specs.References.{last_after, usable}
use Rattle.definitions.specs.WellFormed.{slot_fits}
use Rattle.table_items.specs.declared.Passed.{Passed}

-- no slot passed yet
abbrev pub none_passed : ℕ → Passed
none_passed used = record { patterns = 0; left = used; last = None }

-- a pattern may follow, and a slot may be passed
abbrev pub may_follow : Passed → Pattern → Bool
may_follow w p = leb p.len w.left && usable w.last p

abbrev pub kind_passes : Passed → Kind → Bool
kind_passes w unused = true
kind_passes w (addressed a) = true
kind_passes w (patterned p) = may_follow w p
kind_passes w plain_test = true

abbrev pub may_pass : Passed → Slot → Bool
may_pass w sl = slot_fits sl && kind_passes w (kind_of sl.item)

-- one slot more
abbrev pub past_kind : Passed → Kind → Passed
past_kind w unused = w
past_kind w (addressed a) = w
past_kind w (patterned p) = record { patterns = w.patterns + 1; left = w.left - p.len; last = last_after w.last p (start_at 0) }
past_kind w plain_test = w

abbrev pub past_item : Passed → Slot → Passed
past_item w sl = past_kind w (kind_of sl.item)

pub record Passable (w : Passed) (sl : Slot) : Type 0 where
  pub few : w.patterns < max_items
  pub passes : may_pass w sl ≡ true

-- the end, where so many items are in use
abbrev pub ends_well : Passed → ℕ → Bool
ends_well w count = leb w.patterns max_patterns && (leb (count - w.patterns) max_tests && eqb w.left 0)
