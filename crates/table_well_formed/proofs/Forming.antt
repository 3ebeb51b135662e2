-- The test of a table, as the code parts it: the definitions' tests stand in another order, and each decides alone. Items that fit are no more
-- than there is room for.
use Rattle.std.specs.Prelude.{None}
use mathlib.Core.Path.{◌≡◌, refl, ap}
use mathlib.Core.Bool.{Bool, true, false, ◌&&◌, and-true, and-false, and_comm}
use mathlib.Core.List.{List}
use Prim.Native.Nat.{ℕ, ◌-◌, ◌≤◌}
use lib.ListN.{length, take, drop}
use lib.Dec.{eqb, leb}
use borrow.Author.Tests.{leb-true}
use Rattle.forms.proofs.Bools.{both_left}
use Rattle.definitions.specs.declared.table.Table.{Table}
use Rattle.definitions.specs.Limits.{max_byte, max_patterns, max_tests, max_items}
use Rattle.definitions.specs.Lists.{all?}
use Rattle.definitions.specs.Items.{patterns_of, slots_of}
use Rattle.definitions.specs.References.{usable_run}
use Rattle.definitions.specs.WellFormed.{is_zero, name_fits, slot_fits, slot_unused, pattern_count, items_fit, bytes_of, bytes_fit, well_formed}
use Rattle.table_well_formed.specs.ItemsTest.{slots_fit, items_well}

pub few_items : (t : Table) → items_fit t ≡ true → t.count ≤ max_items
unfolding items_fit
few_items t e = leb-true t.count max_items (both_left (leb t.count max_items) _ e)

-- the room of the bytes
abbrev room_fits : List ℕ → ℕ → Bool
room_fits bytes used = leb used (length bytes) && (all? (λ (b : ℕ). leb b max_byte) (take used bytes) && all? is_zero (drop used bytes))

regroup : (c s u a b e g r : Bool)
    → ((c && (s && (u && (a && b)))) && ((e && r) && g)) ≡ ((c && ((s && (a && (b && (e && g)))) && u)) && r)
regroup false s u a b e g r = refl
regroup true false u a b e g r = refl
regroup true true false a b e g r = simp and-false
regroup true true true false b e g r = refl
regroup true true true true false e g r = refl
regroup true true true true true false g r = refl
regroup true true true true true true g r = rw and-true (and_comm r g)

pub parted : (t : Table)
    → well_formed t
    ≡ (name_fits t.name t.len && (leb t.protocol max_byte && (items_well t.items t.count t.used && room_fits t.bytes t.used)))
unfolding well_formed items_fit bytes_fit items_well slots_fit
parted t =
    ap (λ (x : Bool). name_fits t.name t.len && (leb t.protocol max_byte && x))
    (regroup
    (leb t.count max_items)
    (all? slot_fits (slots_of t))
    (all? slot_unused (drop t.count t.items))
    (leb (pattern_count t) max_patterns)
    (leb (t.count - pattern_count t) max_tests)
    (eqb t.used (bytes_of (patterns_of (slots_of t))))
    (eqb (usable_run None (patterns_of (slots_of t))) (pattern_count t))
    (room_fits t.bytes t.used))
