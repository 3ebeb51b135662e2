-- The rows of the table of options, each found in it by its place; and what stands after two dashes and a row's own name is an option's text.
use mathlib.Core.Path.{◌≡◌, refl}
use mathlib.Core.Bool.{Bool, true, false}
use mathlib.Core.List.Memᴰ.{head as first_one}
use mathlib.Core.List.Memᴰ.{tail as later-one}
use mathlib.Core.List.{List, [], ◌∷◌, ◌++◌, Memᴰ as Mem}
use Prim.Native.Nat.{ℕ, zero, suc, ◌<◌}
use native.Mathlib.Omega.{arith}
use lib.ListN.{length, get_or}
use lib.Dec.{lit<}
use Rattle.forms.specs.Bytes.{text, lower, same_word}
use Rattle.definitions.specs.declared.table.Side.{Side}
use Rattle.definitions.specs.declared.table.Side.TheVariants as side
use Rattle.definitions.specs.declared.table.NumberField.{NumberField}
use Rattle.definitions.specs.declared.table.NumberField.TheVariants as number_field
use Rattle.definitions.specs.declared.table.HeaderField.{HeaderField}
use Rattle.definitions.specs.declared.table.HeaderField.TheVariants as header_field
use Rattle.definitions.specs.OptionValues.{OptionValue}
use Rattle.definitions.specs.Forms.{name_form, protocol_form, flow_form, address_form, same_ip_form, number_form, ttl_form, field_form, ip_id_form}
use Rattle.definitions.specs.Forms.{size_form, at_form, byte_form, pattern_form, context_form, no_case_form, distance_form, within_form}
use Rattle.definitions.specs.Options.{Option, row, option_table}
use Rattle.definitions.specs.Canonical.{side_name, number_name, field_name}
use Rattle.definitions.specs.Grammar.{OptionText, option}
use Rattle.definitions.specs.IpId.{is_ip_id_field}
use Rattle.syntax.proofs.Truths.{impossible}
use Rattle.syntax.proofs.Rows.{all_rows, each_row}
use Rattle.roundtrip.proofs.Making.{Of}

-- ---- one space and an option's text

abbrev pub Written : List ℕ → OptionValue → Type 1
Written x e = (y : List ℕ) × (x ≡ 32 ∷ y) × OptionText y e

abbrev own_name : Option → Bool
own_name o = same_word o.name o.name

own_names : all_rows own_name option_table ≡ true
unfolding option_table same_word lower
own_names = refl

pub row_written : {o : Option} → Mem o option_table → {y : List ℕ} {e : OptionValue} → Of o.form y e → Written (text " --" ++ (o.name ++ y)) e
row_written {o} m {y} k = (45 ∷ 45 ∷ (o.name ++ y), refl, option o o.name y m (each_row own_name m own_names) k.means)

-- ---- the rows

found : (os : List Option) (i : ℕ) (d : Option) → i < length os → Mem (get_or os i d) os
found [] i d h = absurd (omega (arith, h))
found (o ∷ os) zero d h = first_one refl
found (o ∷ os) (suc i) d h = later-one (found os i d (omega (arith, h)))

at_place : (i : ℕ) → i < length option_table → Mem (get_or option_table i (row "" name_form)) option_table
at_place i h = found option_table i (row "" name_form) h

pub name_row : Mem (row "name" name_form) option_table
unfolding option_table
name_row = at_place 0 (lit< tt)

pub protocol_row : Mem (row "protocol" protocol_form) option_table
unfolding option_table
protocol_row = at_place 1 (lit< tt)

pub flow_row : Mem (row "flow" flow_form) option_table
unfolding option_table
flow_row = at_place 2 (lit< tt)

pub side_row : (s : Side) → Mem (record { name = side_name s; form = address_form s }) option_table
unfolding option_table
side_row side.Source = at_place 3 (lit< tt)
side_row side.Destination = at_place 4 (lit< tt)

pub same_ip_row : Mem (row "same_ip" same_ip_form) option_table
unfolding option_table
same_ip_row = at_place 5 (lit< tt)

pub ip_id_row : Mem (row "ip_id" ip_id_form) option_table
unfolding option_table
ip_id_row = at_place 6 (lit< tt)

pub number_row : (f : NumberField) → is_ip_id_field f ≡ false → Mem (record { name = number_name f; form = number_form f }) option_table
unfolding option_table
number_row number_field.IpId t = impossible (cc)
number_row number_field.SourcePort t = at_place 7 (lit< tt)
number_row number_field.DestinationPort t = at_place 8 (lit< tt)
number_row number_field.Tos t = at_place 9 (lit< tt)

pub ttl_row : Mem (row "ip_ttl" ttl_form) option_table
unfolding option_table
ttl_row = at_place 10 (lit< tt)

pub field_row : (f : HeaderField) → Mem (record { name = field_name f; form = field_form f }) option_table
unfolding option_table
field_row header_field.TotalLength = at_place 11 (lit< tt)
field_row header_field.Id = at_place 12 (lit< tt)
field_row header_field.Checksum = at_place 13 (lit< tt)
field_row header_field.Ttl = at_place 14 (lit< tt)

pub size_row : Mem (row "data_size" size_form) option_table
unfolding option_table
size_row = at_place 15 (lit< tt)

pub at_row : Mem (row "data_at" at_form) option_table
unfolding option_table
at_row = at_place 16 (lit< tt)

pub byte_row : Mem (row "byte_test" byte_form) option_table
unfolding option_table
byte_row = at_place 17 (lit< tt)

pub pattern_row : Mem (row "pattern" pattern_form) option_table
unfolding option_table
pattern_row = at_place 18 (lit< tt)

pub context_row : Mem (row "context" context_form) option_table
unfolding option_table
context_row = at_place 19 (lit< tt)

pub no_case_row : Mem (row "no_case" no_case_form) option_table
unfolding option_table
no_case_row = at_place 20 (lit< tt)

pub distance_row : Mem (row "distance" distance_form) option_table
unfolding option_table
distance_row = at_place 21 (lit< tt)

pub within_row : Mem (row "within" within_form) option_table
unfolding option_table
within_row = at_place 22 (lit< tt)
