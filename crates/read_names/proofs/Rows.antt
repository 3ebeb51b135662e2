-- The options are the rows of the definitions' table, in order; so the option of the first row with a name reads as that row.
use Rattle.std.specs.Prelude.{if◌then◌else◌, Some, None}
use mathlib.Core.Path.{◌≡◌, refl, sym, ap, ◌∙◌}
use mathlib.Core.Bool.{true, false}
use mathlib.Core.List.{List, [], ◌∷◌, map, head-eq_of_cons-eq, tail-eq_of_cons-eq}
use Prim.Native.Nat.{ℕ, suc, ◌+◌, ◌≤◌, ◌<◌}
use native.Mathlib.Omega.{arith}
use native.Mathlib.Numerals.{add-one}
use lib.ListN.{length, get_or, drop, drop_of_length-le, length-map}
use lib.Seq.{drop-cons}
use denote.Ref.{Bor}
use Rattle.std.proofs.lemmas.List.{get_or-map}
use Rattle.forms.specs.Bytes.{same_word}
use Rattle.forms.specs.Form.{Form}
use Rattle.forms.specs.Place.{read_at}
use Rattle.forms.proofs.Bools.{by_cases}
use Rattle.definitions.specs.Lists.{all?}
use Rattle.definitions.specs.OptionValues.{OptionValue}
use Rattle.definitions.specs.Options.{Option, option_table, named_option, listed}
use Rattle.list_laws.proofs.Every.{all_at}
use Rattle.read_names.specs.declared.options.OptionName.{OptionName}
use Rattle.read_names.specs.Names.{option_order, form_of, option_names, option_count, no_capitals, option_named, parsed_as}

pub rows_in_order : map form_of option_order ≡ map (λ row. row.form) option_table
unfolding option_order form_of option_table
rows_in_order = refl

pub names_count : length option_names ≡ option_count
unfolding option_names option_table
names_count = refl

-- the names are written in small letters
pub names_small : (k : ℕ) → k < option_count → no_capitals (get_or option_names k []) ≡ true
unfolding option_names option_table all?
names_small k h = all_at no_capitals [] option_names k refl h

pub order_count : length option_order ≡ option_count
unfolding option_order
order_count = refl

-- ---- rows of names and options, side by side, that are the table's

pub record Table (rows : List (Bor (List ℕ) × OptionName)) : Type 0 where
  pub names : map (λ (r : Bor (List ℕ) × OptionName). r.0.now) rows ≡ option_names
  pub options : map (λ (r : Bor (List ℕ) × OptionName). r.1) rows ≡ option_order

module _ {rows : List (Bor (List ℕ) × OptionName)} (t : Table rows) (k : ℕ) (d : Bor (List ℕ) × OptionName) (h : k < option_count) where
  long : k < length rows
  long = omega (arith, h, ap length t.options, order_count, length-map rows (λ (r : Bor (List ℕ) × OptionName). r.1))

  pub name_at : (get_or rows k d).0.now ≡ get_or option_names k []
  name_at =
      sym (get_or-map (λ (r : Bor (List ℕ) × OptionName). r.0.now) rows k d [] long) ∙ ap (λ (l : List (List ℕ)). get_or l k []) t.names

  pub option_at : (e : OptionName) → (get_or rows k d).1 ≡ get_or option_order k e
  option_at e =
      sym (get_or-map (λ (r : Bor (List ℕ) × OptionName). r.1) rows k d e long) ∙ ap (λ (l : List OptionName). get_or l k e) t.options

-- ---- the first row with a name, row by row

-- what is still to come after the first k rows
abbrev pub Left : List OptionName → List (List ℕ) → List ℕ → ℕ → Type 0
Left os ws n k = option_named os ws n ≡ option_named (drop k os) (drop k ws) n

module _ (os : List OptionName) (ws : List (List ℕ)) (n : List ℕ) (k : ℕ) (d : OptionName) (h : k < length os) (g : k < length ws) (u : Left os ws n k) where
  row : option_named (drop k os) (drop k ws) n ≡ (if same_word n (get_or ws k []) then Some (get_or os k d) else option_named (drop (suc k) os) (drop (suc k) ws) n)
  unfolding option_named
  row = rw (drop-cons os k d h, drop-cons ws k [] g)

  pub row_found : same_word n (get_or ws k []) ≡ true → Some (get_or os k d) ≡ option_named os ws n
  row_found t = sym (u ∙ row ∙ rw t)

  pub row_passed : same_word n (get_or ws k []) ≡ false → Left os ws n (k + 1)
  row_passed t = rw add-one (u ∙ row ∙ rw t)

pub rows_out : (os : List OptionName) (ws : List (List ℕ)) (n : List ℕ) (k : ℕ) → length os ≤ k → Left os ws n k → None ≡ option_named os ws n
unfolding option_named
rows_out os ws n k h u = sym (u ∙ rw (drop_of_length-le os {i = k} h))

-- ---- what the definition reads

parsed_by : (os : List OptionName) (rows : List Option) → map form_of os ≡ map (λ row. row.form) rows
    → (n s : List ℕ) (at : ℕ) → named_option rows n s at ≡ parsed_as (option_named os (map (λ row. row.name) rows) n) s at
unfolding named_option option_named
parsed_by [] [] e n s at = refl
parsed_by [] (r ∷ rows) e n s at = absurd (omega (arith, ap length e))
parsed_by (o ∷ os) [] e n s at = absurd (omega (arith, ap length e))
parsed_by (o ∷ os) (r ∷ rows) e n s at =
    by_cases (same_word n r.name)
    (λ t. rw t (ap (λ (f : Form OptionValue). listed (read_at f s at)) (sym (head-eq_of_cons-eq e))))
    (λ t. rw t (parsed_by os rows (tail-eq_of_cons-eq e) n s at))

pub parsed_named : (n s : List ℕ) (at : ℕ) → named_option option_table n s at ≡ parsed_as (option_named option_order option_names n) s at
unfolding option_names
parsed_named n s at = parsed_by option_order option_table rows_in_order n s at
