-- When an option fits: its numbers are within the limits of its option, its name or pattern is not empty, a test's addresses are as many as it says.
-- What a text makes fits (Rows), and what fits has a text (Written).
use mathlib.Core.Path.{◌≡◌, refl}
use mathlib.Core.Bool.{Bool, true, false, not, ◌&&◌, ◌||◌}
use mathlib.Core.List.{List}
use Prim.Native.Nat.{ℕ, ◌≤◌}
use lib.ListN.{length}
use lib.Dec.{eqb, leb}
use lib.IntN.{nat_abs}
use Rattle.forms.specs.Bytes.{between}
use Rattle.forms.specs.Form.{has}
use Rattle.forms.proofs.Sound.{never}
use Rattle.definitions.specs.declared.table.Flow as flows
use Rattle.definitions.specs.declared.table.Flow.TheVariants as flow
use Rattle.definitions.specs.declared.table.NumberField.{NumberField}
use Rattle.definitions.specs.declared.table.NumberField.TheVariants as number_field
use Rattle.definitions.specs.declared.table.DistanceValue.{DistanceValue}
use Rattle.definitions.specs.declared.table.Reference.TheVariants as reference
use Rattle.definitions.specs.declared.table.Item.{Item}
use Rattle.definitions.specs.declared.table.Address.{Address}
use Rattle.definitions.specs.Limits.{max_name, max_byte, max_word}
use Rattle.definitions.specs.Lists.{all?, none?}
use Rattle.definitions.specs.OptionValues.{Modifier, Context, NoCase, Distance, Within, OptionValue, Name, Protocol, Flow, Test, Pattern, Modified}
use Rattle.definitions.specs.Forms.{quotable, max_number}
use Rattle.definitions.specs.Items.{Kind, unused, addressed, patterned, plain_test, kind_of}
use Rattle.definitions.specs.References.{same_reference}
use Rattle.definitions.specs.WellFormed.{address_fits, number_fits, item_fits}
use Rattle.definitions.specs.IpId.{is_ip_id_field}

-- a number test that is not of the old kind fits if its number is within its limit
pub number_limited : (f : NumberField) (n : ℕ) → is_ip_id_field f ≡ false → number_fits f n ≡ leb n (max_number f)
number_limited number_field.IpId n t = never (cc)
number_limited number_field.SourcePort n t = refl
number_limited number_field.DestinationPort n t = refl
number_limited number_field.Tos n t = refl

abbrev pub flow_fits : flows.Flow → Bool
flow_fits flow.Any = false
flow_fits flow.FromClient = true
flow_fits flow.FromServer = true

abbrev pub test_fits : Kind → Item → List Address → Bool
test_fits unused it al = false
test_fits (addressed a) it al = eqb a.count (length al) && (leb 1 (length al) && all? address_fits al)
test_fits (patterned p) it al = false
test_fits plain_test it al = item_fits it && none? al

abbrev pub is_byte : ℕ → Bool
is_byte b = leb b max_byte

abbrev pub modifier_fits : Modifier → Bool
modifier_fits (Context c) = true
modifier_fits NoCase = true
modifier_fits (Distance d) = leb (nat_abs d.offset) max_word
modifier_fits (Within w) = leb w.number max_word

abbrev pub option_fits : OptionValue → Bool
option_fits (Name n) = between 1 max_name (length n) && all? (has quotable) n
option_fits (Protocol p) = leb p max_byte
option_fits (Flow f) = flow_fits f
option_fits (Test it al) = test_fits (kind_of it) it al
option_fits (Pattern n b) = leb 1 (length b) && all? is_byte b
option_fits (Modified m) = modifier_fits m

-- reverse is written after a reference only, and match is left out: usable patterns have no such distance
abbrev pub offset_writable : DistanceValue → Bool
offset_writable d = not d.reverse || not (same_reference d.reference reference.Match)

abbrev pub option_writable : OptionValue → Bool
option_writable (Name n) = true
option_writable (Protocol p) = true
option_writable (Flow f) = true
option_writable (Test it al) = true
option_writable (Pattern n b) = true
option_writable (Modified (Context c)) = true
option_writable (Modified NoCase) = true
option_writable (Modified (Distance d)) = offset_writable d
option_writable (Modified (Within w)) = true

-- pattern bytes of an entry
abbrev pub pattern_length : OptionValue → ℕ
pattern_length (Name n) = 0
pattern_length (Protocol p) = 0
pattern_length (Flow f) = 0
pattern_length (Test it al) = 0
pattern_length (Pattern n b) = length b
pattern_length (Modified m) = 0

-- an option of the text x fits and has no more pattern bytes than the text has bytes
pub record Fitting (x : List ℕ) (e : OptionValue) : Type 0 where
  pub fits : option_fits e ≡ true
  pub small : pattern_length e ≤ length x
