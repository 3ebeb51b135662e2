-- What an option may stand after: once, a modifier after a pattern, and the counts. Section "Text", and "Numbers of refusal", 8, 9 and 11.
use Rattle.std.specs.Prelude.{ℕ, Bool, ◌||◌, List, [], ◌∷◌, length, eqb, ltb, leb, Result, Ok}
use Rattle.definitions.specs.declared.answers.Refusal.TheVariants as refusal
use Rattle.definitions.specs.declared.answers.Refusal.{Refusal}
use Rattle.definitions.specs.Limits.{max_patterns, max_tests, max_addresses}
use Rattle.definitions.specs.Lists.{any?, count}
use Rattle.definitions.specs.OptionValues.{Modifier, Context, NoCase, Distance, Within, OptionValue, Name, Protocol, Flow, Test, Pattern, Modified}
use Rattle.definitions.specs.Refusals.{refuse_if}

-- the kinds of option that are counted or may stand once
abbrev pub kind_number : OptionValue → ℕ
kind_number (Name n) = 0
kind_number (Protocol p) = 1
kind_number (Flow f) = 2
kind_number (Test it al) = 3
kind_number (Pattern n b) = 4
kind_number (Modified m) = 5

abbrev pub same_kind : OptionValue → OptionValue → Bool
same_kind e d = eqb (kind_number e) (kind_number d)

abbrev pub is_test : OptionValue → Bool
is_test e = eqb (kind_number e) 3

abbrev pub is_pattern : OptionValue → Bool
is_pattern e = eqb (kind_number e) 4

abbrev pub modifier_number : Modifier → ℕ
modifier_number (Context c) = 0
modifier_number NoCase = 1
modifier_number (Distance d) = 2
modifier_number (Within w) = 3

abbrev pub same_modifier : Modifier → Modifier → Bool
same_modifier m n = eqb (modifier_number m) (modifier_number n)

-- the modifiers after the last pattern; ms are those that were met
unfoldable pub latest : List Modifier → List OptionValue → List Modifier
latest ms [] = ms
latest ms (Name n ∷ es) = latest ms es
latest ms (Protocol p ∷ es) = latest ms es
latest ms (Flow f ∷ es) = latest ms es
latest ms (Test it al ∷ es) = latest ms es
latest ms (Pattern n b ∷ es) = latest [] es
latest ms (Modified m ∷ es) = latest (m ∷ ms) es

-- given again where once is allowed
abbrev pub once : List OptionValue → OptionValue → Result Unit Refusal
once es e = refuse_if (any? (same_kind e) es) refusal.Repeated (Ok tt)

-- whether an option may stand after the options es, or 8, 9 or 11
unfoldable pub occurrence_check : List OptionValue → OptionValue → Result Unit Refusal
occurrence_check es (Name n) = once es (Name n)
occurrence_check es (Protocol p) = once es (Protocol p)
occurrence_check es (Flow f) = once es (Flow f)
occurrence_check es (Test it al) = refuse_if (ltb max_addresses (length al) || leb max_tests (count is_test es)) refusal.CountExceeded (Ok tt)
occurrence_check es (Pattern n b) = refuse_if (leb max_patterns (count is_pattern es)) refusal.CountExceeded (Ok tt)
occurrence_check es (Modified m) =
    refuse_if (eqb (count is_pattern es) 0) refusal.ModifierWithoutPattern
    (refuse_if (any? (same_modifier m) (latest [] es)) refusal.Repeated (Ok tt))

-- name and protocol must stand
unfoldable pub missing : List OptionValue → Bool
missing es = eqb (count (same_kind (Name [])) es) 0 || eqb (count (same_kind (Protocol 0)) es) 0
