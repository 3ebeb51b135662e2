-- Where refusals 6 and 7 are placed, said without scanning: by the texts that an option's form makes. Document 02, T-02.
use Rattle.std.specs.Prelude.{ℕ, ◌+◌, ◌-◌, ◌≤◌, ◌<◌, ◌≡◌, Bool, true, false, ◌||◌, length, take, drop, eqb, leb, if◌then◌else◌, Result, Ok, Err}
use mathlib.Core.List.{List, [], ◌∷◌, ◌++◌, Memᴰ as Mem}
use Rattle.forms.specs.Bytes.{lower, same_word}
use Rattle.forms.specs.Form.{has, Means}
use Rattle.forms.specs.Bounds.{Bounded, bounds, all_kept}
use Rattle.definitions.specs.declared.answers.Refusal.{Refusal}
use Rattle.definitions.specs.declared.answers.TextRefusal.{TextRefusal}
use Rattle.definitions.specs.Limits.{max_name}
use Rattle.definitions.specs.Lists.{all?, none?}
use Rattle.definitions.specs.Refusals.{number_of}
use Rattle.definitions.specs.Numbers.{decimal_digits, hex_digits, value_of}
use Rattle.definitions.specs.ByteCounts.{is_byte_count}
use Rattle.definitions.specs.OptionValues.{OptionValue}
use Rattle.definitions.specs.Options.{Option, option_table, name_length}

-- ---- what stays: all but the places of 6 and 7

abbrev pub placed_anew : Refusal → Bool
placed_anew r = eqb (number_of r) 6 || eqb (number_of r) 7

abbrev pub except_places : Result Unit TextRefusal → Result Unit TextRefusal
except_places (Ok tt) = Ok tt
except_places (Err e) = Err (record { refusal = e.refusal; place = (if placed_anew e.refusal then 0 else e.place) })

-- ---- what the places of 6 and 7 are

-- the bytes of a text from one place to another
abbrev pub span : List ℕ → ℕ → ℕ → List ℕ
span s from to = take (to - from) (drop from s)

-- the option has its first dash there: two dashes, and its name, as the longest run of bytes that a name may have
pub record NamedAt (s : List ℕ) (dash : ℕ) (o : Option) : Type 1 where
  pub listed : Mem o option_table
  pub dashes : span s dash (dash + 2) ≡ 45 ∷ 45 ∷ []
  pub named : same_word (take (name_length s (dash + 2)) (drop (dash + 2) s)) o.name ≡ true

-- x is a text of the option, limits ignored: `--`, its name in any letter case, and what its form allows
pub record OfForm (o : Option) (x : List ℕ) : Type 0 where
  pub name : List ℕ
  pub rest : List ℕ
  pub value : OptionValue
  pub is : x ≡ 45 ∷ 45 ∷ (name ++ rest)
  pub named : same_word name o.name ≡ true
  pub formed : Means false o.form rest value

-- x begins such a text
abbrev pub BeginsForm : Option → List ℕ → Type 0
BeginsForm o x = (y : List ℕ) × OfForm o (x ++ y)

-- THE PLACE OF 6: no text of the option stands at its first dash; what stands from there to p begins one, and with the byte at p it begins none, or p is
-- the text's length
pub record WrongByte (s : List ℕ) (dash p : ℕ) : Type 1 where
  pub option : Option
  pub named : NamedAt s dash option
  pub not_formed : (to : ℕ) → OfForm option (span s dash to) → ⊥
  pub after : dash ≤ p
  pub inside : p ≤ length s
  pub begins : BeginsForm option (span s dash p)
  pub no_further : p < length s → BeginsForm option (span s dash (p + 1)) → ⊥

-- what a limit of an option is on, how many bytes of it stand before its place, and whether it is kept: a number in decimal digits, placed at the first;
-- one in hex digits, placed at the first after `0x`; a byte count, placed as a number is; a name in quotes, placed at the first quote. That a number's limit
-- is the option's own is by its form, whose bounds `bounds` lists
pub data Limited : List ℕ → ℕ → Bool → Type 0 where
  decimal : (limit : ℕ) (digits : List ℕ) → none? digits ≡ false → all? (has decimal_digits) digits ≡ true → Limited digits 0 (leb (value_of 10 0 digits) limit)
  hex : (limit x : ℕ) (digits : List ℕ) → lower x ≡ 120 → none? digits ≡ false → all? (has hex_digits) digits ≡ true
      → Limited (48 ∷ x ∷ digits) 2 (leb (value_of 16 0 digits) limit)
  count : (digits : List ℕ) → none? digits ≡ false → all? (has decimal_digits) digits ≡ true → Limited digits 0 (is_byte_count (value_of 10 0 digits))
  name : (bytes : List ℕ) → Limited (34 ∷ (bytes ++ (34 ∷ []))) 0 (leb (length bytes) max_name)

-- THE PLACE OF 7: the option is of its form up to its end; of its limits from left to right those before one are kept, this one is not, and p is its place
pub record BeyondLimit (s : List ℕ) (dash p : ℕ) : Type 1 where
  pub option : Option
  pub named : NamedAt s dash option
  pub end : ℕ
  pub inside : end ≤ length s
  pub formed : OfForm option (span s dash end)
  pub kept : List Bounded
  pub first : Bounded
  pub others : List Bounded
  pub limits : bounds option.form formed.rest formed.value formed.formed ≡ kept ++ (first ∷ others)
  pub all_kept_lem : all_kept kept ≡ true
  pub not_kept : first.kept ≡ false
  pub limited : Limited first.part first.skip first.kept
  pub from : ℕ
  pub begins : from ≡ dash + 2 + length formed.name + first.before
  pub stands : span s from (from + length first.part) ≡ first.part
  pub placed : p ≡ from + first.skip
