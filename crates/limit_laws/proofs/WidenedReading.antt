-- READING UNDER TWO LIMITS: a text within the first has the same number and place under the second, and its table with zero room added (`read_widened`). How many
-- pattern bytes a table has room for enters a reading only where the table is made.
use Rattle.std.specs.Prelude.{if◌then◌else◌, Ok, Err}
use mathlib.Core.Path.{◌≡◌, ap}
use mathlib.Core.Bool.{Bool, true, false, not}
use mathlib.Core.List.{List, []}
use Prim.Native.Nat.{ℕ, ◌≤◌}
use native.Mathlib.Omega.{arith}
use lib.ListN.{length, take, drop}
use lib.Dec.{ltb}
use borrow.Author.Tests.{le-ltb}
use Rattle.forms.specs.Bytes.{run}
use Rattle.definitions.specs.declared.answers.Refusal.{Refusal}
use Rattle.definitions.specs.declared.answers.Refusal.TheVariants as refusal
use Rattle.definitions.specs.declared.answers.Reading.{Reading}
use Rattle.definitions.specs.declared.table.Table.{Table}
use Rattle.definitions.specs.Limits.{Limits}
use Rattle.definitions.specs.Lists.{none?, count, same_bytes}
use Rattle.definitions.specs.OptionValues.{OptionValue}
use Rattle.definitions.specs.Options.{printable, opening}
use Rattle.definitions.specs.Tables.{bytes_in, table_of}
use Rattle.definitions.specs.References.{usable_in}
use Rattle.definitions.specs.Occurrences.{is_pattern, missing}
use Rattle.definitions.specs.Reading.{Located, option_values_of, Options, ended, refused, at_letter, options, pattern_dash, refused_reading, accepted_reading}
use Rattle.definitions.specs.Reading.{checked_table, finished, unbounded_placing, read_unbounded, read_placing, read}
use Rattle.list_laws.proofs.Padded.{padded_again}
use Rattle.limit_laws.specs.LongerTexts.{Raised, widened, widened_reading}

module _ (a b : ℕ) (h : a ≤ b) where
  table_widened : (es : List OptionValue) → table_of b es ≡ widened b (table_of a es)
  unfolding table_of widened
  table_widened es = rw (padded_again b 0 a (bytes_in es) h)

  refused_widened : (r : Refusal) (p : ℕ) → refused_reading b r p ≡ widened_reading b (refused_reading a r p)
  unfolding widened_reading
  refused_widened r p = ap (λ (t : Table). record { outcome = Err (record { refusal = r; place = p }); table = t }) (table_widened [])

  accepted_widened : (es : List OptionValue) → accepted_reading (table_of b es) ≡ widened_reading b (accepted_reading (table_of a es))
  unfolding widened_reading
  accepted_widened es = ap (λ (t : Table). record { outcome = Ok tt; table = t }) (table_widened es)

  either : (c : Bool) (x y x' y' : Reading) → x' ≡ widened_reading b x → y' ≡ widened_reading b y
      → (if c then x' else y') ≡ widened_reading b (if c then x else y)
  either true x y x' y' p q = p
  either false x y x' y' p q = q

  checked_widened : (s : List ℕ) (located : List Located) → checked_table b s located ≡ widened_reading b (checked_table a s located)
  unfolding checked_table
  checked_widened s located =
      let es = option_values_of located in
      either (ltb (usable_in es) (count is_pattern es)) _ _ _ _ (refused_widened refusal.Unusable (pattern_dash located (usable_in es)))
      (either (missing es) _ _ _ _ (refused_widened refusal.Missing (length s)) (accepted_widened es))

  finished_widened : (s : List ℕ) (o : Options) → finished b s o ≡ widened_reading b (finished a s o)
  finished_widened s (ended located) = checked_widened s located
  finished_widened s (refused r p) = refused_widened r p

  unbounded_widened : (s : List ℕ) → read_unbounded b s ≡ widened_reading b (read_unbounded a s)
  unfolding unbounded_placing
  unbounded_widened s =
      either (none? s) _ _ _ _ (refused_widened refusal.TextLength 0)
      (either (ltb (run printable s) (length s)) _ _ _ _ (refused_widened refusal.TextByte (run printable s))
      (either (not (same_bytes (take (length opening) s) opening)) _ _ _ _ (refused_widened refusal.Opening 0)
      (finished_widened s (options at_letter s (drop (length opening) s) 0 (length opening) []))))

pub read_widened : (a b : Limits) → Raised a b → (s : List ℕ) → length s ≤ a.text → read b s ≡ widened_reading b.room (read a s)
unfolding read_placing
read_widened a b h s n =
    rw (le-ltb a.text (length s) n, le-ltb b.text (length s) (omega (arith, n, h.text))) (unbounded_widened a.room b.room h.room s)
