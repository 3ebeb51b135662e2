-- A refused reading's table is the empty table (`refused_empty`), and a text over the limit is refusal 1 at 0 (`limit_kept`). Each answer of
-- the reader is a refusal, whose table is empty by its definition, or accepted.
use Rattle.std.specs.Prelude.{if◌then◌else◌, Ok}
use mathlib.Core.Path.{◌≡◌, refl}
use mathlib.Core.Bool.{Bool, true, false, not}
use mathlib.Core.List.{List, []}
use Prim.Native.Nat.{ℕ, ◌<◌}
use lib.ListN.{length, drop, take}
use lib.Dec.{ltb}
use borrow.Author.Tests.{lt-ltb}
use Rattle.forms.specs.Bytes.{run}
use Rattle.definitions.specs.declared.answers.Refusal.{Refusal}
use Rattle.definitions.specs.declared.answers.Refusal.TheVariants as refusal
use Rattle.definitions.specs.declared.answers.Reading.{Reading}
use Rattle.definitions.specs.Limits.{Limits}
use Rattle.definitions.specs.Lists.{none?, count, same_bytes}
use Rattle.definitions.specs.Tables.{table_of}
use Rattle.definitions.specs.Occurrences.{is_pattern, missing}
use Rattle.definitions.specs.Reading.{Located, option_values_of, Options, ended, refused, options, pattern_dash, refused_reading, checked_table, finished}
use Rattle.definitions.specs.Reading.{at_letter, unbounded_placing, read_placing, read_unbounded, read}
use Rattle.definitions.specs.Options.{printable, opening}
use Rattle.definitions.specs.References.{usable_in}

abbrev pub EmptyOrAccepted : ℕ → Reading → Type 0
EmptyOrAccepted room r = (r.outcome ≡ Ok tt → ⊥) → r.table ≡ table_of room []

either : (room : ℕ) (b : Bool) (x y : Reading) → EmptyOrAccepted room x → EmptyOrAccepted room y → EmptyOrAccepted room (if b then x else y)
either room true x y hx hy = hx
either room false x y hx hy = hy

refusal_empty : (room : ℕ) (r : Refusal) (p : ℕ) → EmptyOrAccepted room (refused_reading room r p)
refusal_empty room r p n = refl

checked_empty : (room : ℕ) (s : List ℕ) (located : List Located) → EmptyOrAccepted room (checked_table room s located)
unfolding checked_table
checked_empty room s located =
    either room (ltb (usable_in (option_values_of located)) (count is_pattern (option_values_of located))) _ _
    (refusal_empty room refusal.Unusable (pattern_dash located (usable_in (option_values_of located))))
    (either room (missing (option_values_of located)) _ _ (refusal_empty room refusal.Missing (length s)) (λ n. absurd (n refl)))

finished_empty : (room : ℕ) (s : List ℕ) (o : Options) → EmptyOrAccepted room (finished room s o)
finished_empty room s (ended located) = checked_empty room s located
finished_empty room s (refused r p) = refusal_empty room r p

pub unbounded_empty : (room : ℕ) (s : List ℕ) → EmptyOrAccepted room (read_unbounded room s)
unfolding unbounded_placing
unbounded_empty room s =
    either room (none? s) _ _ (refusal_empty room refusal.TextLength 0)
    (either room (ltb (run printable s) (length s)) _ _ (refusal_empty room refusal.TextByte (run printable s))
    (either room (not (same_bytes (take (length opening) s) opening)) _ _ (refusal_empty room refusal.Opening 0)
    (finished_empty room s (options at_letter s (drop (length opening) s) 0 (length opening) []))))

-- a refused reading has no name, protocol 0, no items, all room zero
pub refused_empty : (lim : Limits) (s : List ℕ) → EmptyOrAccepted lim.room (read lim s)
unfolding read_placing
refused_empty lim s =
    either lim.room (ltb lim.text (length s)) _ _ (refusal_empty lim.room refusal.TextLength 0) (unbounded_empty lim.room s)

pub limit_kept : (lim : Limits) (s : List ℕ) → lim.text < length s → read lim s ≡ refused_reading lim.room refusal.TextLength 0
unfolding read_placing
limit_kept lim s h = rw (lt-ltb lim.text (length s) h)
