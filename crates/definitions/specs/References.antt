-- Which references are usable. Section "Numbers of refusal", its last paragraph (number 10).
use Rattle.std.specs.Prelude.{ℕ, ◌+◌, Bool, true, not, ◌&&◌, ◌||◌, List, [], ◌∷◌, eqb, pos, if◌then◌else◌, Option, Some, None}
use Rattle.std.specs.Int.Signed.{le_z}
use Rattle.definitions.specs.declared.table.Context.{Context}
use Rattle.definitions.specs.declared.table.Context.TheVariants as context
use Rattle.definitions.specs.declared.table.Reference.{Reference}
use Rattle.definitions.specs.declared.table.Reference.TheVariants as reference
use Rattle.definitions.specs.declared.table.DistanceValue.{DistanceValue}
use Rattle.definitions.specs.declared.table.Pattern.{Pattern}
use Rattle.definitions.specs.declared.packets.Start.{Start}
use Rattle.definitions.specs.declared.packets.Match.{Match}
use Rattle.definitions.specs.declared.table.WithinValue.{WithinValue}
use Rattle.definitions.specs.OptionValues.{OptionValue}
use Rattle.definitions.specs.Tables.{slots_in}
use Rattle.definitions.specs.Items.{patterns_of}
use Rattle.definitions.specs.Starts.{start_at}

abbrev pub context_number : Context → ℕ
context_number context.Packet = 0
context_number context.Uri = 1
context_number context.Header = 2
context_number context.Body = 3
context_number context.Banner = 4
context_number context.Host = 5
context_number context.File = 6

abbrev pub same_context : Context → Context → Bool
same_context a b = eqb (context_number a) (context_number b)

abbrev pub reference_number : Reference → ℕ
reference_number reference.Match = 0
reference_number reference.Packet = 1
reference_number reference.Context = 2

abbrev pub same_reference : Reference → Reference → Bool
same_reference a b = eqb (reference_number a) (reference_number b)

-- the last positive pattern, after the pattern p that lies at the start s; a negated one moves no reference
abbrev pub last_after : Option Match → Pattern → Start → Option Match
last_after last p s = if p.negated then last else Some (record { context = p.context; end = s.at + p.len })

-- the last positive pattern before, if there is one, stands in the context
abbrev pub last_in : Option Match → Context → Bool
last_in None c = true
last_in (Some m) c = same_context m.context c

-- not `packet` with another context than packet; not `match` in a range where the last positive pattern before stands in another context
abbrev pub reference_usable : Option Match → Context → Reference → Bool
reference_usable last c reference.Match = last_in last c
reference_usable last c reference.Packet = same_context c context.Packet
reference_usable last c reference.Context = true

-- not reverse with `match` or with a `-` and a number other than 0
abbrev pub reverse_usable : DistanceValue → Bool
reverse_usable d = not d.reverse || (not (same_reference d.reference reference.Match) && le_z (pos 0) d.offset)

abbrev pub distance_usable : Option Match → Context → Option DistanceValue → Bool
distance_usable last c None = true
distance_usable last c (Some d) = reference_usable last c d.reference && reverse_usable d

abbrev pub within_usable : Option Match → Context → Option WithinValue → Bool
within_usable last c None = true
within_usable last c (Some w) = reference_usable last c w.reference

-- not distance and within of one pattern with unlike references
abbrev pub references_alike : Option DistanceValue → Option WithinValue → Bool
references_alike None w = true
references_alike (Some d) None = true
references_alike (Some d) (Some w) = same_reference d.reference w.reference

unfoldable pub usable : Option Match → Pattern → Bool
usable last p =
    distance_usable last p.context p.distance
    && (within_usable last p.context p.within && references_alike p.distance p.within)

-- how many patterns at the front are usable; where a pattern lies plays no part
unfoldable pub usable_run : Option Match → List Pattern → ℕ
usable_run last [] = 0
usable_run last (p ∷ ps) = if usable last p then 1 + usable_run (last_after last p (start_at 0)) ps else 0

-- how many of the options' patterns from the first on have usable references
abbrev pub usable_in : List OptionValue → ℕ
usable_in es = usable_run None (patterns_of (slots_in es))
