-- The option that a value stands for, and pattern bytes after those in use.
use Rattle.std.specs.Prelude.{ℕ, ◌+◌, List, [], length, take, drop}
use Rattle.std.proofs.lemmas.List.Edits.{sets}
use Rattle.definitions.specs.declared.table.Address.{Address}
use Rattle.definitions.specs.declared.table.Item.TheVariants as item
use Rattle.definitions.specs.OptionValues.{OptionValue, Name, Protocol, Flow, Test, Pattern, Modified, Context, NoCase, Distance, Within}
use Rattle.read_value.specs.declared.Value.{Value}
use Rattle.read_value.specs.declared.Value.TheVariants as value

-- a value of the text s, with the addresses al and the pattern bytes b beside it
unfoldable pub option_value_of : List ℕ → Value → List Address → List ℕ → OptionValue
option_value_of s (value.Name from n) al b = Name (take n (drop from s))
option_value_of s (value.Protocol p) al b = Protocol p
option_value_of s (value.Flow f) al b = Flow f
option_value_of s (value.Test it) al b = Test it []
option_value_of s (value.Addresses a) al b = Test (item.Address a) al
option_value_of s (value.Pattern negated n) al b = Pattern negated b
option_value_of s (value.Context c) al b = Modified (Context c)
option_value_of s value.NoCase al b = Modified NoCase
option_value_of s (value.Distance d) al b = Modified (Distance d)
option_value_of s (value.Within w) al b = Modified (Within w)

-- the pattern bytes so far: the bytes of a buffer, and how many of them are in use
pub record PatternBytes : Type 0 where
  pub bytes : List ℕ
  pub used : ℕ

abbrev pub pattern_bytes_of : List ℕ → ℕ → PatternBytes
pattern_bytes_of bytes used = record { bytes = bytes; used = used }

-- the bytes b after those in use; past the end nothing is kept
abbrev pub appended : PatternBytes → List ℕ → PatternBytes
appended r b = record { bytes = sets r.bytes r.used b; used = r.used + length b }

-- a value with nothing beside it: no addresses, no pattern bytes, no place in the text
abbrev pub Plain : Value → Type 0
Plain (value.Name from n) = ⊥
Plain (value.Protocol p) = Unit {0}
Plain (value.Flow f) = Unit {0}
Plain (value.Test it) = Unit {0}
Plain (value.Addresses a) = ⊥
Plain (value.Pattern negated n) = ⊥
Plain (value.Context c) = Unit {0}
Plain value.NoCase = Unit {0}
Plain (value.Distance d) = Unit {0}
Plain (value.Within w) = Unit {0}
