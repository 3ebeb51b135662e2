-- `--ip_id N` AND `--ip.id = N` READ AS EQUAL TABLES: of two texts that are alike but for these spellings one is accepted with a table exactly if the other
-- is (`respelled_reads`), and the tables that they read as are equal (`respelled_tables`). Each spelling is an option's text of the same value. The second text
-- is longer by two bytes for each (`respelled_longer`). Document 02, T-09.
use mathlib.Core.Path.{◌≡◌, refl, sym, ap, ◌∙◌}
use mathlib.Core.Bool.{true, false}
use mathlib.Core.List.{List, [], ◌∷◌, ◌++◌}
use mathlib.Core.Logic.{◌↔◌, ⊎_elim}
use Prim.Native.Nat.{ℕ, ◌+◌, ◌*◌, ◌≤◌}
use native.Mathlib.Omega.{arith}
use lib.ListN.{length, length-append}
use lib.Dec.{eqb, leb}
use borrow.Author.Tests.{eqb-true, eqb-false, leb-true, le-leb, le-ltb}
use Rattle.forms.specs.Bytes.{between, text, lower, same_word}
use Rattle.forms.specs.Form.{has, Row, none}
use Rattle.forms.proofs.Bools.{by_cases, both_left, both_right, or-false}
use Rattle.forms.proofs.Sound.{never}
use Rattle.definitions.specs.declared.table.HeaderField.TheVariants as header_field
use Rattle.definitions.specs.declared.table.Operator.{Operator}
use Rattle.definitions.specs.declared.table.Operator.TheVariants as operator
use Rattle.definitions.specs.declared.table.Item.TheVariants as item
use Rattle.definitions.specs.declared.table.Table.{Table}
use Rattle.definitions.specs.Limits.{Limits, max_word}
use Rattle.definitions.specs.Lists.{all?, none?}
use Rattle.definitions.specs.Numbers.{decimal_digits, digit_value, value_of, either_base, numeral}
use Rattle.definitions.specs.OptionValues.{OptionValue}
use Rattle.definitions.specs.Forms.{test, field_equals}
use Rattle.definitions.specs.Options.{opening}
use Rattle.definitions.specs.Reading.{accepted_reading, read_placing, read_unbounded, read}
use Rattle.definitions.specs.Grammar.{OptionText, option, OptionsBy, OptionsText, close, space}
use Rattle.laws.proofs.Refusing.{unbounded_empty}
use Rattle.definitions.specs.IpId.{WordDigits, ip_id_text, id_equals_text, Respelled, both_end, both_space, same_option, other_spelling}
use Rattle.roundtrip.proofs.AllTests.{all_head, all_tail}
use Rattle.roundtrip.proofs.Listed.{ip_id_row, field_row}
use Rattle.roundtrip.proofs.Making.{Of, pure_of, is_byte_lem, fmap_of, bound_of, preceded_of, terminated_of, both_of, alt_left, alt_right}
use Rattle.roundtrip.proofs.Making.{many_of, byte_row, some_bytes, literal_of, literal_as-of, values}
use Rattle.roundtrip.proofs.Read.{told_either}
use Rattle.roundtrip.proofs.SameOptions.{same_options}

-- ---- digits, as the two forms take them

-- a digit that is not 0
digit_led : (b : ℕ) → has decimal_digits b ≡ true → eqb b 48 ≡ false → has ((49, 57) ∷ []) b ≡ true
unfolding has
digit_led b h z =
    let u : between 48 57 b ≡ true = sym (or-false (between 48 57 b)) ∙ h in
    let i = leb-true 48 b (both_left (leb 48 b) (leb b 57) u) in
    let n = eqb-false b 48 z in
    rw (le-leb 49 b (omega (arith, i, n)), both_right (leb 48 b) (leb b 57) u)

-- any digits, leading zeros too, are a decimal number in either base
zero_first : (digits : List ℕ) → all? (has decimal_digits) digits ≡ true → Of either_base (48 ∷ digits) (0, value_of 10 0 (48 ∷ digits))
unfolding value_of digit_value
zero_first digits all =
    alt_left (preceded_of (literal_of 48) (alt_right (fmap_of {h = λ (l : List ℕ). (0, value_of 10 0 l)} (many_of (byte_row decimal_digits digits all)))))

either_digits : (digits : List ℕ) → none? digits ≡ false → all? (has decimal_digits) digits ≡ true → Of either_base digits (0, value_of 10 0 digits)
either_digits [] some all = never (cc)
either_digits (b ∷ digits) some all =
    let rest = all_tail (has decimal_digits) b digits all in
    by_cases (eqb b 48)
    (λ z. rw (eqb-true b 48 z) (zero_first digits rest))
    (λ z. alt_right (fmap_of {h = λ (p : ℕ × List ℕ). (0, value_of 10 0 (p.0 ∷ p.1))}
    (both_of (is_byte_lem (digit_led b (all_head (has decimal_digits) b digits all) z)) (many_of (byte_row decimal_digits digits rest)))))

some_length : (digits : List ℕ) → none? digits ≡ false → 1 ≤ length digits
some_length [] some = never (cc)
some_length (b ∷ digits) some = omega arith

-- ---- the two spellings are texts of one option

abbrev id_equals : List ℕ → OptionValue
id_equals digits = test (item.Field (field_equals header_field.Id (value_of 10 0 digits)))

module _ (digits : List ℕ) (w : WordDigits digits) where
  pub ip_id_says : OptionText (ip_id_text digits) (id_equals digits)
  unfolding same_word lower
  ip_id_says =
      option _ (text "ip_id") (32 ∷ (digits ++ (59 ∷ []))) ip_id_row refl
      (values (fmap_of {h = λ (n : ℕ). test (item.Field (field_equals header_field.Id n))}
      (bound_of w.small (fmap_of (some_bytes decimal_digits digits (some_length digits w.some) w.all))))).means

  pub id_equals_says : OptionText (id_equals_text digits) (id_equals digits)
  unfolding same_word lower
  id_equals_says =
      let n : Of (numeral max_word) digits (value_of 10 0 digits) =
      fmap_of {h = λ (p : ℕ × ℕ). p.1} {a = (0, value_of 10 0 digits)} (bound_of w.small (either_digits digits w.some w.all)) in
      let o = terminated_of (alt_left (literal_as-of 61 operator.Equal)) (many_of (Row.more (literal_of 32) none)) in
      option _ (text "ip.id") (32 ∷ 61 ∷ 32 ∷ (digits ++ (59 ∷ []))) (field_row header_field.Id) refl
      (values
      (fmap_of {h = λ (p : ℕ × (Operator × ℕ)). test (item.Field (record { field = header_field.Id; mask = p.0; operator = p.1.0; number = p.1.1 }))}
      (both_of (alt_right pure_of) (both_of o n)))).means

respelled_options : {n : ℕ} {l m : List ℕ} → Respelled n l m → (es : List OptionValue) × OptionsText l es × OptionsText m es
respelled_options both_end = ([], close, close)
respelled_options (both_space r) = let i = respelled_options r in (i.0, space i.1, space i.2)
respelled_options (same_option {e} o r) = let i = respelled_options r in (e ∷ i.0, OptionsBy.more o i.1, OptionsBy.more o i.2)
respelled_options (other_spelling digits w r) =
    let i = respelled_options r in
    (id_equals digits ∷ i.0, OptionsBy.more (ip_id_says digits w) i.1, OptionsBy.more (id_equals_says digits w) i.2)

-- ---- the theorems

-- TWO BYTES LONGER for each
pub respelled_longer : {n : ℕ} {l m : List ℕ} → Respelled n l m → length m ≡ length l + 2 * n
respelled_longer both_end = omega arith
respelled_longer (both_space r) = omega (arith, respelled_longer r)
respelled_longer (same_option {x} {l} {m} o r) = omega (arith, respelled_longer r, length-append x l, length-append x m)
respelled_longer (other_spelling {l} {m} digits w r) =
    omega (
      arith,
      respelled_longer r,
      length-append (ip_id_text digits) l,
      length-append (id_equals_text digits) m,
    )

within_limit : (lim : Limits) (s : List ℕ) → length s ≤ lim.text → read lim s ≡ read_unbounded lim.room s
unfolding read_placing
within_limit lim s h = rw (le-ltb lim.text (length s) h)

module _ {n : ℕ} {l m : List ℕ} (r : Respelled n l m) where
  -- ACCEPTED WITH A TABLE, the one text exactly if the other is
  pub respelled_reads : (room : ℕ) (t : Table)
      → (read_unbounded room (opening ++ l) ≡ accepted_reading t) ↔ (read_unbounded room (opening ++ m) ≡ accepted_reading t)
  respelled_reads room t = let i = respelled_options r in same_options room t i.1 i.2

  -- EQUAL TABLES, also where the texts are refused
  equal_tables : (room : ℕ) → (read_unbounded room (opening ++ l)).table ≡ (read_unbounded room (opening ++ m)).table
  equal_tables room =
      let a = read_unbounded room (opening ++ l) in
      let b = read_unbounded room (opening ++ m) in
      ⊎_elim
      (λ e. sym (ap (λ x. x.table) ((respelled_reads room a.table).0 e)))
      (λ e. ⊎_elim
      (λ f. ap (λ x. x.table) ((respelled_reads room b.table).1 f))
      (λ f. e ∙ sym f)
      (told_either room b (unbounded_empty room (opening ++ m))))
      (told_either room a (unbounded_empty room (opening ++ l)))

  -- the longer of the two is within the limit, so that both are
  module _ (lim : Limits) (h : length (opening ++ m) ≤ lim.text) where
    shorter : length (opening ++ l) ≤ lim.text
    shorter = omega (arith, h, respelled_longer r, length-append opening l, length-append opening m)

    pub respelled_accepted : (t : Table) → (read lim (opening ++ l) ≡ accepted_reading t) ↔ (read lim (opening ++ m) ≡ accepted_reading t)
    respelled_accepted t =
        let a = within_limit lim (opening ++ l) shorter in
        let b = within_limit lim (opening ++ m) h in
        (λ e. b ∙ (respelled_reads lim.room t).0 (sym a ∙ e), λ e. a ∙ (respelled_reads lim.room t).1 (sym b ∙ e))

    pub respelled_tables : (read lim (opening ++ l)).table ≡ (read lim (opening ++ m)).table
    respelled_tables = rw (within_limit lim (opening ++ l) shorter, within_limit lim (opening ++ m) h) (equal_tables lim.room)
