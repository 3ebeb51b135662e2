-- A text of the grammar's options is printable: each name is, in either letter case, and each form's classes are. One computed test over the table of
-- options, then induction on the text.
use mathlib.Core.Path.{◌≡◌, refl}
use mathlib.Core.Bool.{Bool, true, ◌&&◌}
use mathlib.Core.List.{List, [], ◌∷◌}
use Prim.Native.Nat.{ℕ}
use native.Mathlib.Omega.{arith}
use lib.Dec.{eqb, leb}
use borrow.Author.Tests.{eqb-true, leb-true}
use Rattle.forms.specs.Bytes.{between, lower, same_word}
use Rattle.forms.proofs.Bools.{by_cases}
use Rattle.forms.proofs.Sound.{never}
use Rattle.definitions.specs.Lists.{all?}
use Rattle.definitions.specs.OptionValues.{OptionValue}
use Rattle.definitions.specs.Options.{Option, option_table, printable, opening}
use Rattle.definitions.specs.Grammar.{OptionText, option, OptionsBy, OptionsText, close, space}
use Rattle.syntax.proofs.Rows.{all_rows, each_row}
use Rattle.roundtrip.proofs.AllTests.{halves, all_none, all_more, all_head, all_tail, all_append}
use Rattle.roundtrip.proofs.Classes.{printed_form, inside_printed, form_printed}

-- ---- names

small_printed : (b : ℕ) → printable (lower b) ≡ true → printable b ≡ true
unfolding lower
small_printed b t =
    by_cases (between 65 90 b)
    (λ u.
    let h : (leb 65 b ≡ true) × (leb b 90 ≡ true) = halves u in
    inside_printed b (record { above = omega (arith, leb-true 65 b h.0); below = omega (arith, leb-true b 90 h.1) }))
    (λ u. rw u at t)

word_printed : (n w : List ℕ) → same_word n w ≡ true → all? printable w ≡ true → all? printable n ≡ true
unfolding same_word
word_printed [] [] e t = all_none printable
word_printed [] (y ∷ w) e t = never (cc)
word_printed (b ∷ n) [] e t = never (cc)
word_printed (b ∷ n) (y ∷ w) e t =
    let h : (eqb (lower b) y ≡ true) × (same_word n w ≡ true) = halves e in
    let q = eqb-true (lower b) y h.0 in
    all_more printable b n (small_printed b (rw q (all_head printable y w t))) (word_printed n w h.1 (all_tail printable y w t))

-- ---- options

abbrev printed_row : Option → Bool
printed_row o = all? printable o.name && printed_form o.form

rows_printed : all_rows printed_row option_table ≡ true
unfolding option_table all? printable
rows_printed = refl

one_dash : printable 45 ≡ true
unfolding printable
one_dash = refl

option_printed : {x : List ℕ} {e : OptionValue} → OptionText x e → all? printable x ≡ true
option_printed (option o n y {e} m q w) =
    let h : (all? printable o.name ≡ true) × (printed_form o.form ≡ true) = halves (each_row printed_row m rows_printed) in
    all_append printable (45 ∷ 45 ∷ n) y (dashed n (word_printed n o.name q h.0)) (form_printed true o.form h.1 y e w)
  where
    dashed : (n : List ℕ) → all? printable n ≡ true → all? printable (45 ∷ 45 ∷ n) ≡ true
    dashed n t = all_more printable 45 (45 ∷ n) one_dash (all_more printable 45 n one_dash t)

pub printed_opening : all? printable opening ≡ true
unfolding all? printable
printed_opening = refl

pub options_printed : {l : List ℕ} {es : List OptionValue} → OptionsText l es → all? printable l ≡ true
unfolding all? printable
options_printed close = refl
options_printed (space o) = options_printed o
options_printed (OptionsBy.more {x} {l} t o) = all_append printable x l (option_printed t) (options_printed o)
