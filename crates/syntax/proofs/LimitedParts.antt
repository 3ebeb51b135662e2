-- What the limits of the options are on (`each_limited`): numbers in decimal and byte counts, placed at the first digit, numbers in hex, placed at the first
-- digit after `0x`, and a name, placed at its first quote. Each row of the table is put together from these.
use mathlib.Core.Path.{◌≡◌, refl, sym, ap, subst, ◌∙◌}
use mathlib.Core.Bool.{Bool, true, false}
use mathlib.Core.List.Memᴰ.{head as first_one}
use mathlib.Core.List.Memᴰ.{tail as later-one}
use mathlib.Core.List.{List, [], ◌∷◌, ◌++◌, Memᴰ as Mem}
use mathlib.Core.Logic.{inl, inr}
use Prim.Native.Nat.{ℕ}
use native.Mathlib.Omega.{arith}
use lib.Dec.{eqb, leb}
use borrow.Author.Tests.{eqb-true, leb-true, le-leb}
use Rattle.forms.specs.Bytes.{between, lower}
use Rattle.forms.specs.Form.{Class, has, Form, byte, many, fmap, Row, none, more, Means}
use Rattle.forms.specs.Pieces.{preceded, terminated, or, some, literal}
use Rattle.forms.proofs.Bools.{by_cases, both_left, both_right, or-false}
use Rattle.forms.proofs.Words.{span_one}
use Rattle.forms.proofs.Parts.{Each, unbounded, both, either, row, made, on}
use Rattle.definitions.specs.declared.table.Side.{Side}
use Rattle.definitions.specs.declared.table.Side.TheVariants.{Source, Destination}
use Rattle.definitions.specs.declared.table.HeaderField.{HeaderField}
use Rattle.definitions.specs.declared.table.HeaderField.TheVariants.{TotalLength, Id, Checksum, Ttl}
use Rattle.definitions.specs.declared.table.Address.{Address}
use Rattle.definitions.specs.Limits.{max_byte, max_word, max_long, max_prefix}
use Rattle.definitions.specs.Lists.{all?, none?}
use Rattle.definitions.specs.Numbers.{decimal_digits, hex_digits, digit_value, value_of, number_that, number, either_base, numeral}
use Rattle.definitions.specs.ByteCounts.{is_byte_count}
use Rattle.definitions.specs.OptionValues.{OptionValue}
use Rattle.definitions.specs.Forms.{valued, quotable, name_form, address, dotted, address_form, max_field, field_form, byte_form}
use Rattle.definitions.specs.Options.{Option, option_table}
use Rattle.definitions.specs.WrongPlaces.{Limited, decimal, hex, count, name}

-- ---- bytes of a class

-- any number of them are their own value
row_bytes : (c : Class) {x vs : List ℕ} → Row (λ y w. (y ≡ w ∷ []) × (has c w ≡ true)) x vs → (x ≡ vs) × (all? (has c) vs ≡ true)
unfolding all?
row_bytes c none = (refl, refl)
row_bytes c (more {x} {y} {v} {vs} p q) =
    let i = row_bytes c q in
    (ap (λ l. l ++ y) p.0 ∙ ap (λ l. v ∷ l) i.0, rw (p.1, i.1))

many_bytes : (c : Class) (x vs : List ℕ) → Means false (many (byte c)) x vs → (x ≡ vs) × (all? (has c) vs ≡ true)
unfolding Means
many_bytes c x vs m = row_bytes c m

some_bytes : (c : Class) (x vs : List ℕ) → Means false (some (byte c)) x vs → (x ≡ vs) × (none? vs ≡ false) × (all? (has c) vs ≡ true)
unfolding Means all?
some_bytes c x vs m =
    let p = m.0 in
    let q = m.2 in
    let i = row_bytes c q.4 in
    let e : q.0 ++ q.1 ≡ p.0 ∷ p.1 = ap (λ l. l ++ q.1) q.3.0 ∙ ap (λ l. p.0 ∷ l) i.0 in
    (q.2 ∙ e ∙ sym m.1, rw m.1, rw (m.1, q.3.1, i.1))

-- one byte
one_byte : (b : ℕ) (x : List ℕ) (v : ℕ) → Means false (literal b) x v → x ≡ b ∷ []
unfolding Means has
one_byte b x v m =
    let e : eqb v b ≡ true = sym (span_one v b) ∙ sym (or-false (between b b v)) ∙ m.1 in
    m.0 ∙ ap (λ k. k ∷ []) (eqb-true v b e)

-- `x` in either case
x_byte : (b : ℕ) → has ((120, 120) ∷ (88, 88) ∷ []) b ≡ true → lower b ≡ 120
unfolding has lower
x_byte b h =
    by_cases (between 120 120 b)
    (λ t. let e : b ≡ 120 = eqb-true b 120 (sym (span_one b 120) ∙ t) in rw e)
    (λ t.
    let u : between 88 88 b ≡ true = sym (or-false (between 88 88 b)) ∙ rw t at h in
    let e : b ≡ 88 = eqb-true b 88 (sym (span_one b 88) ∙ u) in
    rw e)

-- a digit that is not 0 is a digit
digit_byte : (b : ℕ) → has ((49, 57) ∷ []) b ≡ true → has decimal_digits b ≡ true
unfolding has
digit_byte b h =
    let u : between 49 57 b ≡ true = sym (or-false (between 49 57 b)) ∙ h in
    let i = leb-true 49 b (both_left (leb 49 b) (leb b 57) u) in
    rw (both_right (leb 49 b) (leb b 57) u, le-leb 48 b (omega (arith, i)))

-- ---- numbers and names

-- what may follow a 0
abbrev hex_after : Form (ℕ × ℕ)
hex_after = preceded (byte ((120, 120) ∷ (88, 88) ∷ [])) (fmap (λ (l : List ℕ). (2, value_of 16 0 l)) (some (byte hex_digits)))

abbrev decimal_after : Form (ℕ × ℕ)
decimal_after = fmap {B = ℕ × ℕ} (λ (l : List ℕ). (0, value_of 10 0 l)) (many (byte decimal_digits))

-- a number of which something is asked that is a limit of its digits
each_number_that : (kept : ℕ → Bool)
    → ((digits : List ℕ) → none? digits ≡ false → all? (has decimal_digits) digits ≡ true → Limited digits 0 (kept (value_of 10 0 digits)))
    → Each Limited ℕ (number_that kept)
unfolding Means
each_number_that kept limited =
    on {p = kept} {j = λ (n : ℕ). 0} {f = fmap (value_of 10 0) (some (byte decimal_digits))}
    (λ x v m. let i = some_bytes decimal_digits x m.0 m.2 in rw (m.1, i.0) (limited m.0 i.1 i.2)) (unbounded refl)

each_number : (limit : ℕ) → Each Limited ℕ (number limit)
each_number limit = each_number_that (λ (n : ℕ). leb n limit) (decimal limit)

-- the two ways to go on after a 0, and the one without
module _ (limit : ℕ) where
  after_x : (z : List ℕ) (v : ℕ × ℕ) → Means false hex_after z v → Limited (48 ∷ z) v.0 (leb v.1 limit)
  unfolding Means
  after_x z v m =
      let q = m.2 in
      let d = q.4 in
      let i = some_bytes hex_digits q.1 d.0 d.2 in
      let e : z ≡ m.0.0 ∷ d.0 = q.2 ∙ ap (λ l. l ++ q.1) q.3.0 ∙ ap (λ l. m.0.0 ∷ l) i.0 in
      rw (e, m.1, d.1) (hex limit m.0.0 d.0 (x_byte m.0.0 q.3.1) i.1 i.2)

  after_zero : (z : List ℕ) (v : ℕ × ℕ) → Means false decimal_after z v → Limited (48 ∷ z) v.0 (leb v.1 limit)
  unfolding Means all? has value_of digit_value
  after_zero z v m =
      let i = many_bytes decimal_digits z m.0 m.2 in
      rw (i.0, m.1) (decimal limit (48 ∷ m.0) refl i.1)

  zero_first : (z : List ℕ) (v : ℕ × ℕ) → Means false (or hex_after decimal_after) z v → Limited (48 ∷ z) v.0 (leb v.1 limit)
  unfolding Means
  zero_first z v (inl m) = after_x z v m
  zero_first z v (inr m) = after_zero z v m

  either_base_lem : (x : List ℕ) (v : ℕ × ℕ) → Means false either_base x v → Limited x v.0 (leb v.1 limit)
  unfolding Means all?
  either_base_lem x v (inl m) =
      let q = m.2 in
      let e : x ≡ 48 ∷ q.1 = q.2 ∙ ap (λ l. l ++ q.1) (one_byte 48 q.0 m.0.0 q.3) in
      rw (e, m.1) (zero_first q.1 m.0.1 q.4)
  either_base_lem x v (inr m) =
      let q = m.2 in
      let i = many_bytes decimal_digits q.1 m.0.1 q.4 in
      let e : x ≡ m.0.0 ∷ m.0.1 = q.2 ∙ ap (λ l. l ++ q.1) q.3.0 ∙ ap (λ l. m.0.0 ∷ l) i.0 in
      rw (e, m.1) (decimal limit (m.0.0 ∷ m.0.1) refl (rw (digit_byte m.0.0 q.3.1, i.1)))

  each_numeral : Each Limited ℕ (numeral limit)
  each_numeral = made (on (λ x v m. either_base_lem x v m) (unbounded refl))

-- a value between spaces and `;`
each_valued : {f : Form OptionValue} → Each Limited OptionValue f → Each Limited OptionValue (valued f)
each_valued h = made (both (unbounded refl) (made (both h (unbounded refl))))

each_name : Each Limited OptionValue name_form
unfolding Means
each_name =
    each_valued (made (on {f = preceded (literal 34) (terminated (some (byte quotable)) (literal 34))}
    (λ x v m.
    let q = m.2 in
    let n = q.4.0.0 in
    let w = q.4.2 in
    let e1 : q.1 ≡ n ++ (34 ∷ []) =
    w.2 ∙ ap (λ l. l ++ w.1) (some_bytes quotable w.0 n w.3).0 ∙ ap (λ l. n ++ l) (one_byte 34 w.1 q.4.0.1 w.4) in
    let e2 : x ≡ 34 ∷ (n ++ (34 ∷ [])) = q.2 ∙ ap (λ l. l ++ q.1) (one_byte 34 q.0 m.0.0 q.3) ∙ ap (λ l. 34 ∷ l) e1 in
    let e3 : v ≡ n = m.1 ∙ q.4.1 in
    rw (e2, e3) (name n))
    (unbounded refl)))

-- ---- the rows

each_address : Each Limited Address address
each_address =
    made (both dot (both dot (both dot (both (each_number max_byte) (either (made (both (unbounded refl) (each_number max_prefix))) (unbounded refl))))))
  where
    dot : Each Limited ℕ dotted
    dot = made (both (each_number max_byte) (unbounded refl))

each_addresses : (side : Side) → Each Limited OptionValue (address_form side)
each_addresses side =
    each_valued (made (both (unbounded refl)
    (either
    (made (both (unbounded refl) (made (both (made (both each_address (row (made (both (unbounded refl) each_address))))) (unbounded refl)))))
    (made each_address))))

each_field : (f : HeaderField) → Each Limited OptionValue (field_form f)
each_field f =
    each_valued (made (both
    (either (made (both (unbounded refl) (made (both (unbounded refl) (made (both (each_numeral (max_field f)) (unbounded refl))))))) (unbounded refl))
    (both (unbounded refl) (each_numeral (max_field f)))))

each_byte_test : Each Limited OptionValue byte_form
each_byte_test =
    each_valued (made (both (made (both (made (each_number_that is_byte_count count)) (unbounded refl)))
    (both (unbounded refl)
    (both (made (both (each_numeral max_long) (unbounded refl)))
    (both (each_number max_word) (unbounded refl))))))

-- a row's form, and the others'
infixr 5 ◌also◌
data AllLimited : List Option → Type 1 where
  no_more : AllLimited []
  ◌also◌ : {o : Option} {os : List Option} → Each Limited OptionValue o.form → AllLimited os → AllLimited (o ∷ os)

rows_limited : AllLimited option_table
unfolding option_table
rows_limited =
    each_name
    also each_valued (made (either (unbounded refl) (either (unbounded refl) (either (unbounded refl) (each_number max_byte)))))
    also unbounded refl
    also each_addresses Source
    also each_addresses Destination
    also unbounded refl
    also each_valued (made (each_number max_word))
    also each_valued (made (each_number max_word))
    also each_valued (made (each_number max_word))
    also each_valued (made (each_number max_byte))
    also each_valued (made (both (unbounded refl) (each_number max_byte)))
    also each_field TotalLength
    also each_field Id
    also each_field Checksum
    also each_field Ttl
    also each_valued (made (both (unbounded refl) (both (each_number max_word) (unbounded refl))))
    also each_valued (made (both (each_number max_word) (unbounded refl)))
    also each_byte_test
    also unbounded refl
    also unbounded refl
    also unbounded refl
    also each_valued (made (both (unbounded refl) (both (each_number max_word) (unbounded refl))))
    also each_valued (made (both (each_number max_word) (unbounded refl)))
    also no_more

one_limited : {o : Option} {os : List Option} → Mem o os → AllLimited os → Each Limited OptionValue o.form
one_limited (first_one {x} {xs} e) (h also k) = subst (λ (z : Option). Each Limited OptionValue z.form) (sym e) h
one_limited (later-one {x} {xs} m) (h also k) = one_limited m k

-- WHAT THE LIMITS ARE ON
pub each_limited : {o : Option} → Mem o option_table → Each Limited OptionValue o.form
each_limited m = one_limited m rows_limited
