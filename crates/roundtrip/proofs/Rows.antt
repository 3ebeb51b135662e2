-- What an option's text makes fits, and has no more pattern bytes than the text has bytes: for each row of the table of options by the values of its form.
use mathlib.Core.Path.{◌≡◌, refl, sym, ap, subst, ◌∙◌}
use mathlib.Core.Bool.{Bool, true, false}
use mathlib.Core.List.Memᴰ.{head as first_one}
use mathlib.Core.List.Memᴰ.{tail as later-one}
use mathlib.Core.List.{List, [], ◌∷◌, ◌++◌, Memᴰ as Mem}
use Prim.Native.Nat.{ℕ, ◌≤◌}
use native.Mathlib.Omega.{arith}
use native.Mathlib.Nat.{le_refl}
use lib.ListN.{length, length-append}
use lib.Dec.{leb}
use borrow.Author.Tests.{eq-eqb, le-leb}
use Rattle.forms.specs.Bytes.{text}
use Rattle.forms.specs.Form.{has, Form, pure, pair, fmap, Row, Means}
use Rattle.forms.specs.Pieces.{preceded, terminated, opt, literal}
use Rattle.definitions.specs.declared.table.Flow.TheVariants as flow
use Rattle.definitions.specs.declared.table.Side.{Side}
use Rattle.definitions.specs.declared.table.Side.TheVariants as side
use Rattle.definitions.specs.declared.table.NumberField.{NumberField}
use Rattle.definitions.specs.declared.table.NumberField.TheVariants as number_field
use Rattle.definitions.specs.declared.table.HeaderField.{HeaderField}
use Rattle.definitions.specs.declared.table.HeaderField.TheVariants as header_field
use Rattle.definitions.specs.declared.table.Item.TheVariants as item
use Rattle.definitions.specs.declared.table.Address.{Address}
use Rattle.definitions.specs.Limits.{max_byte, max_word, max_long}
use Rattle.definitions.specs.OptionValues.{NoCase, OptionValue, Pattern, Modified}
use Rattle.definitions.specs.Numbers.{numeral}
use Rattle.definitions.specs.Forms.{spaces, gap, closed, valued, quotable, addresses, address_test, test, negation, max_field, pattern_bytes, name_form}
use Rattle.definitions.specs.Forms.{protocol_form, flow_form, address_form, same_ip_form, number_form, ttl_form, field_form, ip_id_form, size_form, at_form, byte_form}
use Rattle.definitions.specs.Forms.{pattern_form, context_form, no_case_form, distance_form, within_form}
use Rattle.definitions.specs.Options.{Option, option_table}
use Rattle.definitions.specs.WellFormed.{item_fits}
use Rattle.definitions.specs.Grammar.{OptionText, option}
use Rattle.definitions.specs.IpId.{is_ip_id_field}
use Rattle.roundtrip.proofs.AllTests.{both, all_more, row_bytes}
use Rattle.roundtrip.proofs.EveryValue.{Every, every, known}
use Rattle.roundtrip.proofs.Fits.{number_limited, flow_fits, option_fits, pattern_length, Fitting}
use Rattle.roundtrip.proofs.Values.{keyword_every, number_within_lem, numeral_within, signed_abs, not_none, addresses_fit_lem, pattern_fits}

-- all that the form makes fits
pub record Gives (f : Form OptionValue) : Type 0 where
  pub given : (x : List ℕ) (e : OptionValue) → Means true f x e → Fitting x e

-- an option without pattern bytes
plain : (x : List ℕ) (e : OptionValue) → option_fits e ≡ true → pattern_length e ≡ 0 → Fitting x e
plain x e f z = record { fits = f; small = omega (arith, z) }

longer : (x y : List ℕ) (e : OptionValue) → length x ≤ length y → Fitting x e → Fitting y e
longer x y e h i = record { fits = i.fits; small = omega (arith, h, i.small) }

close : (f : Form OptionValue) → Every f Fitting → Gives (closed f)
close f k =
    record {
      given = every (closed f) Fitting
          (known f (λ x e. (y vs : List ℕ) → Row (λ y w. Means true (literal 32) y w) y vs → (b : ℕ) → _ → Fitting (x ++ (y ++ (b ∷ []))) e)
          (λ x e m y vs r b h. longer x (x ++ (y ++ (b ∷ []))) e (omega (arith, length-append x (y ++ (b ∷ [])))) (every f Fitting k x e m)));
    }

value : (f : Form OptionValue) → Every f Fitting → Gives (valued f)
value f k =
    record {
      given = every (valued f) Fitting
          (known gap (λ x a. Every (closed f) (λ y e. Fitting (x ++ y) e))
          (λ x a m. known (closed f) (λ y e. Fitting (x ++ y) e) (λ y e n. longer y (x ++ y) e (omega (arith, length-append x y)) ((close f k).given y e n))));
    }

-- an option with a value and without pattern bytes: what it says fits, whatever its text
says : {A : Type 0} {h : A → OptionValue} {f : Form A} → ((a : A) → pattern_length (h a) ≡ 0) → Every f (λ x a. option_fits (h a) ≡ true)
    → Gives (valued (fmap h f))
says {A} {h} {f} z k = value (fmap h f) (known f (λ x a. Fitting x (h a)) (λ x a m. plain x (h a) (every f (λ x a. option_fits (h a) ≡ true) k x a m) (z a)))

-- ---- the rows

name_gives : Gives name_form
name_gives = says (λ n. refl) (λ q h b g x vs r c k t. both (both (not_none (length vs)) t) (all_more (has quotable) b vs g (row_bytes quotable r)))

protocol_gives : Gives protocol_form
protocol_gives =
    says (λ p. refl) (
      keyword_every (text "tcp") 6 (λ x p. leb p 255 ≡ true) (λ x. refl),
      (
        keyword_every (text "udp") 17 (λ x p. leb p 255 ≡ true) (λ x. refl),
        (keyword_every (text "icmp") 1 (λ x p. leb p 255 ≡ true) (λ x. refl), λ b h x vs r t. t),
      ),
    )

flow_gives : Gives flow_form
flow_gives = says (λ f. refl)
    (λ b1 h1 b2 h2 b3 h3 b4 h4 b5 h5. (
      keyword_every (text "client") flow.FromClient (λ x f. flow_fits f ≡ true) (λ x. refl),
      keyword_every (text "server") flow.FromServer
          (λ x f. flow_fits f ≡ true) (λ x. refl),
    ))

module _ (side : Side) where
  listed : (n : Bool) (x : List ℕ) (al : List Address) → Means true addresses x al → option_fits (address_test side (n, al)) ≡ true
  listed n x al m = both (eq-eqb (length al) (length al) refl) (addresses_fit_lem x al m)

  address_gives : Gives (address_form side)
  address_gives =
      says (λ p. refl) (
        (λ b h. known addresses (λ y al. option_fits (address_test side (true, al)) ≡ true) (listed true)),
        known addresses
            (λ y al. option_fits (address_test side (false, al)) ≡ true) (listed false),
      )

same_ip_gives : Gives same_ip_form
unfolding item_fits
same_ip_gives = close (pure (test item.SameIp)) (plain [] (test item.SameIp) refl refl)

number_gives : (f : NumberField) → is_ip_id_field f ≡ false → Gives (number_form f)
unfolding item_fits
number_gives f k = says (λ n. refl) (λ b h x vs r t. both (number_limited f _ k ∙ t) refl)

ip_id_gives : Gives ip_id_form
unfolding item_fits
ip_id_gives = says (λ n. refl) (λ b h x vs r t. both (both refl t) refl)

-- an option whose value is known to fit
known_says : {A : Type 0} {h : A → OptionValue} {f : Form A} → ((a : A) → pattern_length (h a) ≡ 0)
    → ((x : List ℕ) (a : A) → Means true f x a → option_fits (h a) ≡ true) → Gives (valued (fmap h f))
known_says {A} {h} {f} z k = says z (known f (λ x a. option_fits (h a) ≡ true) k)

ttl_gives : Gives ttl_form
unfolding item_fits Means
ttl_gives = known_says (λ p. refl) (λ x p m. both (number_within_lem max_byte m.1 p.1 m.4) refl)

-- a mask is within the field's limit, also where it is left out
mask_within : (limit : ℕ) (x : List ℕ) (n : ℕ) → Means true (opt limit (preceded (literal 38) (preceded spaces (terminated (numeral limit) spaces)))) x n
    → leb n limit ≡ true
mask_within limit =
    every (opt limit (preceded (literal 38) (preceded spaces (terminated (numeral limit) spaces)))) (λ x n. leb n limit ≡ true) (
      (λ b h y vs r. known (numeral limit) (λ x n. (z ws : List ℕ) → Row (λ y w. Means true (literal 32) y w) z ws → leb n limit ≡ true)
          (λ x n m z ws k. numeral_within limit x n m)),
      le-leb limit limit (le_refl limit),
    )

field_gives : (f : HeaderField) → Gives (field_form f)
unfolding item_fits Means
field_gives f =
    known_says (λ p. refl)
    (λ x p m. both (both (mask_within (max_field f) m.0 p.0 m.3) (numeral_within (max_field f) m.4.1 p.1.1 m.4.4)) refl)

size_gives : Gives size_form
unfolding item_fits Means
size_gives = known_says (λ p. refl) (λ x p m. both (number_within_lem max_word m.4.0 p.1.0 m.4.3) refl)

at_gives : Gives at_form
unfolding item_fits Means
at_gives = known_says (λ p. refl) (λ x p m. both (number_within_lem max_word m.0 p.0 m.3) refl)

byte_gives : Gives byte_form
unfolding item_fits Means
byte_gives =
    known_says (λ p. refl)
    (λ x p m.
    let value = m.4.4.3 in
    let offset = m.4.4.4 in
    let small : leb p.1.1.0 max_long ≡ true = ap (λ n. leb n max_long) value.1 ∙ numeral_within max_long value.2.0 value.0.0 value.2.3 in
    both (both small (number_within_lem max_word offset.0 p.1.1.1.0 offset.3)) refl)

context_gives : Gives context_form
context_gives = known_says (λ c. refl) (λ x c m. refl)

no_case_gives : Gives no_case_form
no_case_gives = close (pure (Modified NoCase)) (plain [] (Modified NoCase) refl refl)

distance_gives : Gives distance_form
unfolding Means
distance_gives = known_says (λ p. refl) (λ x p m. ap (λ n. leb n max_word) (signed_abs p.0 p.1.0) ∙ number_within_lem max_word m.4.0 p.1.0 m.4.3)

within_gives : Gives within_form
unfolding Means
within_gives = known_says (λ p. refl) (λ x p m. number_within_lem max_word m.0 p.0 m.3)

-- the bytes of a pattern, in quotes
in_quotes : (n : Bool) → Every (preceded (literal 34) (terminated pattern_bytes (literal 34))) (λ x bs. Fitting x (Pattern n bs))
in_quotes n = λ q h. known pattern_bytes (λ x bs. (c : ℕ) → has ((34, 34) ∷ []) c ≡ true → Fitting ((q ∷ []) ++ (x ++ (c ∷ []))) (Pattern n bs))
    (λ x bs m c g.
    let i = pattern_fits x bs m in
    record { fits = both i.0 i.1.bytes; small = omega (arith, i.1.short, length-append x (c ∷ [])) })

pattern_gives : Gives pattern_form
pattern_gives =
    value (fmap (λ (p : Bool × List ℕ). Pattern p.0 p.1) (pair negation (preceded (literal 34) (terminated pattern_bytes (literal 34))))) (
      (λ b h. known (preceded (literal 34) (terminated pattern_bytes (literal 34))) (λ y bs. Fitting ((b ∷ []) ++ y) (Pattern true bs))
          (λ y bs m. longer y ((b ∷ []) ++ y) (Pattern true bs) (omega arith)
          (every (preceded (literal 34) (terminated pattern_bytes (literal 34))) (λ x bs. Fitting x (Pattern true bs)) (in_quotes true) y bs m))),
      in_quotes false,
    )

-- ---- the table

infixr 5 ◌and◌
data RowsGive : List Option → Type 1 where
  done : RowsGive []
  ◌and◌ : {o : Option} {os : List Option} → Gives o.form → RowsGive os → RowsGive (o ∷ os)

row_gives : {o : Option} {os : List Option} → Mem o os → RowsGive os → Gives o.form
row_gives (first_one e) (m and ms) = subst (λ (z : Option). Gives z.form) (sym e) m
row_gives (later-one i) (m and ms) = row_gives i ms

-- in the order of the table
table_gives : RowsGive option_table
unfolding option_table
table_gives =
    name_gives and protocol_gives and flow_gives and address_gives side.Source and address_gives side.Destination and same_ip_gives
    and ip_id_gives and number_gives number_field.SourcePort refl and number_gives number_field.DestinationPort refl and number_gives number_field.Tos refl
    and ttl_gives
    and field_gives header_field.TotalLength and field_gives header_field.Id and field_gives header_field.Checksum and field_gives header_field.Ttl
    and size_gives and at_gives and byte_gives and pattern_gives and context_gives and no_case_gives and distance_gives and within_gives and done

pub option_fits_lem : {x : List ℕ} {e : OptionValue} → OptionText x e → Fitting x e
option_fits_lem (option o n y {e} m q w) = longer y (45 ∷ 45 ∷ (n ++ y)) e (omega (arith, length-append n y)) ((row_gives m table_gives).given y e w)
