-- What an option says: the texts' contents before they become a table. Section "Text".
use Rattle.std.specs.Prelude.{ℕ, Bool, List}
use Rattle.definitions.specs.declared.table.Flow as flow
use Rattle.definitions.specs.declared.table.Context as context
use Rattle.definitions.specs.declared.table.DistanceValue.{DistanceValue}
use Rattle.definitions.specs.declared.table.WithinValue.{WithinValue}
use Rattle.definitions.specs.declared.table.Item.{Item}
use Rattle.definitions.specs.declared.table.Address.{Address}

-- `context`, `no_case`, `distance` and `within` belong to the nearest pattern before them
pub data Modifier : Type 0 where
  Context : context.Context → Modifier
  NoCase : Modifier
  Distance : DistanceValue → Modifier
  Within : WithinValue → Modifier

-- a test has a list of addresses only if it is an address test
pub data OptionValue : Type 0 where
  Name : List ℕ → OptionValue
  Protocol : ℕ → OptionValue
  Flow : flow.Flow → OptionValue
  Test : Item → List Address → OptionValue
  Pattern : Bool → List ℕ → OptionValue
  Modified : Modifier → OptionValue
