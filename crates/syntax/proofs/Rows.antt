-- What the rows of the table of options have in common. Each fact is one computed test over the whole table; a test that holds for the table holds
-- for each of its members.
use mathlib.Core.Path.{◌≡◌, refl, subst, sym}
use mathlib.Core.Bool.{Bool, true, false, not, ◌&&◌}
use mathlib.Core.List.Memᴰ.{head as first_one}
use mathlib.Core.List.Memᴰ.{tail as later-one}
use mathlib.Core.List.{List, [], ◌∷◌, Memᴰ as Mem}
use Prim.Native.Nat.{ℕ}
use native.Mathlib.Omega.{arith}
use lib.Dec.{eqb, leb}
use borrow.Author.Tests.{eqb-true, leb-true, not-true}
use Rattle.forms.specs.Bytes.{lower, same_word}
use Rattle.forms.specs.Form.{Class, has, Form}
use Rattle.forms.specs.Scan.{nullable, first_set, begins, follow_set, is_ll1}
use Rattle.forms.proofs.Bools.{by_cases, both_left, both_right}
use Rattle.forms.proofs.Sound.{never}
use Rattle.definitions.specs.Lists.{none?}
use Rattle.definitions.specs.OptionValues.{OptionValue}
use Rattle.definitions.specs.Options.{Option, option_table, in_name}

-- ---- tests over rows

abbrev pub all_rows : (Option → Bool) → List Option → Bool
all_rows p [] = true
all_rows p (o ∷ os) = p o && all_rows p os

pub each_row : (p : Option → Bool) {o : Option} {os : List Option} → Mem o os → all_rows p os ≡ true → p o ≡ true
each_row p (first_one {x} {xs} e) t = subst (λ z. p z ≡ true) (sym e) (both_left (p x) (all_rows p xs) t)
each_row p (later-one {x} {xs} m) t = each_row p m (both_right (p x) (all_rows p xs) t)

-- ---- names

-- small letters, digits, `_` and `.` only
unfoldable pub plain_word : List ℕ → Bool
plain_word [] = true
plain_word (b ∷ w) = (in_name b && eqb (lower b) b) && plain_word w

abbrev pub plain_name : Option → Bool
plain_name o = plain_word o.name

-- no two rows have one name
abbrev pub unlike : Option → Option → Bool
unlike o p = not (same_word p.name o.name)

abbrev pub distinct : List Option → Bool
distinct [] = true
distinct (o ∷ os) = all_rows (unlike o) os && distinct os

pub names_plain : all_rows plain_name option_table ≡ true
unfolding option_table plain_word in_name lower
names_plain = refl

pub names_distinct : distinct option_table ≡ true
unfolding option_table same_word lower
names_distinct = refl

-- ---- forms

-- single bytes, none of which can stand in a name
abbrev pub no_name : Class → Bool
no_name [] = true
no_name (r ∷ c) = (eqb r.0 r.1 && not (in_name r.0)) && no_name c

-- one byte of look-ahead decides; the form begins with a byte that is not of a name, and nothing goes on after it
abbrev pub form_alone : Option → Bool
form_alone o = is_ll1 o.form && (not (nullable o.form) && (none? (follow_set o.form) && no_name (first_set o.form)))

pub forms_alone : all_rows form_alone option_table ≡ true
unfolding option_table in_name lower
forms_alone = refl

none_begins : (c : Class) → none? c ≡ true → (r : List ℕ) → begins c r ≡ false
unfolding has
none_begins [] e [] = refl
none_begins [] e (b ∷ r) = refl
none_begins (q ∷ c) e r = never (cc)

no_name_byte : (c : Class) → no_name c ≡ true → (b : ℕ) → has c b ≡ true → in_name b ≡ false
unfolding has
no_name_byte [] e b h = never (cc)
no_name_byte (r ∷ c) e b h =
    let e1 = both_left (eqb r.0 r.1 && not (in_name r.0)) (no_name c) e in
    by_cases (leb r.0 b && leb b r.1)
    (λ t.
    let z = eqb-true r.0 r.1 (both_left (eqb r.0 r.1) (not (in_name r.0)) e1) in
    let g = leb-true r.0 b (both_left (leb r.0 b) (leb b r.1) t) in
    let k = leb-true b r.1 (both_right (leb r.0 b) (leb b r.1) t) in
    let y : r.0 ≡ b = omega (arith, z, g, k) in
    subst (λ a. in_name a ≡ false) y (not-true (in_name r.0) (both_right (eqb r.0 r.1) (not (in_name r.0)) e1)))
    (λ t. no_name_byte c (both_right (eqb r.0 r.1 && not (in_name r.0)) (no_name c) e) b (rw t at h))

pub record Alone (f : Form OptionValue) : Type 0 where
  pub is_LL1 : is_ll1 f ≡ true
  pub is_full : not (nullable f) ≡ true
  pub ends_itself : (r : List ℕ) → begins (follow_set f) r ≡ false
  pub not_of_name : (b : ℕ) → has (first_set f) b ≡ true → in_name b ≡ false

pub form_alone_lem : {o : Option} → Mem o option_table → Alone o.form
form_alone_lem {o} m =
    let f = o.form in
    let t = each_row form_alone m forms_alone in
    let t1 = both_right (is_ll1 f) (not (nullable f) && (none? (follow_set f) && no_name (first_set f))) t in
    let t2 = both_right (not (nullable f)) (none? (follow_set f) && no_name (first_set f)) t1 in
    record {
      is_LL1 = both_left (is_ll1 f) (not (nullable f) && (none? (follow_set f) && no_name (first_set f))) t;
      is_full = both_left (not (nullable f)) (none? (follow_set f) && no_name (first_set f)) t1;
      ends_itself = none_begins (follow_set f) (both_left (none? (follow_set f)) (no_name (first_set f)) t2);
      not_of_name = no_name_byte (first_set f) (both_right (none? (follow_set f)) (no_name (first_set f)) t2);
    }
