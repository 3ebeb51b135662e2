-- An option at a place of a text: its name is the one that stands after the dashes, and any text of the option that stands there goes on after that name.
use mathlib.Core.Path.{◌≡◌, refl, sym, ap, ◌∙◌}
use mathlib.Core.Bool.{true}
use mathlib.Core.List.{List, [], ◌∷◌, ◌++◌, append_assoc}
use Prim.Native.Nat.{ℕ, ◌+◌, ◌-◌}
use native.Mathlib.Omega.{arith}
use lib.ListN.{length, take, drop, length-take, take-append-drop}
use lib.Seq.{take-append_seam, drop-append_seam}
use Rattle.forms.specs.Bytes.{text, same_word}
use Rattle.forms.specs.Place.{Read, read_at}
use Rattle.forms.proofs.Words.{word_length}
use Rattle.definitions.specs.OptionValues.{OptionValue}
use Rattle.definitions.specs.Options.{Option, option_table, in_name, name_length, listed, option_at}
use Rattle.definitions.specs.WrongPlaces.{span, NamedAt, OfForm}
use Rattle.list_laws.proofs.Runs.{run_le}
use Rattle.laws.proofs.Placing.{OptionAnswers}
use Rattle.syntax.proofs.Frame.{parted, front_exactly}
use Rattle.syntax.proofs.Names.{row_of}

-- the bytes from a place to the end of what stands there
pub span_of : (s : List ℕ) (dash : ℕ) (x r : List ℕ) (p : ℕ) → drop dash s ≡ x ++ r → p ≡ dash + length x → span s dash p ≡ x
span_of s dash x r p d e =
    let n : p - dash ≡ length x = omega (arith, e) in
    rw (n, d) (take-append_seam x r)

-- the option of a name, and what its form answers with after the name
pub record Named (s : List ℕ) (dash : ℕ) (r : Read OptionValue) : Type 1 where
  pub option : Option
  pub name : List ℕ
  pub named : NamedAt s dash option
  pub is : same_word name option.name ≡ true
  pub stands : drop dash s ≡ 45 ∷ 45 ∷ (name ++ drop (dash + 2 + length name) s)
  pub answers : read_at option.form s (dash + 2 + length name) ≡ r

unfoldable pub named_from : (s : List ℕ) (dash : ℕ) (o : Option) (r : Read OptionValue) → NamedAt s dash o
    → read_at o.form s (dash + 2 + name_length s (dash + 2)) ≡ r → Named s dash r
named_from s dash o r n a =
    let j = name_length s (dash + 2) in
    let w = take j (drop (dash + 2) s) in
    let l : length w ≡ j = simp length-take (omega (arith, run_le in_name (drop (dash + 2) s))) in
    let z : dash + 2 - dash ≡ 2 = omega arith in
    let d1 : drop dash s ≡ (45 ∷ 45 ∷ []) ++ drop (dash + 2) s =
    parted s dash 2 (drop (dash + 2) s) refl ∙ ap (λ x. x ++ drop (dash + 2) s) (rw z at n.dashes) in
    let d2 : drop (dash + 2) s ≡ w ++ drop (dash + 2 + j) s = parted s (dash + 2) j (drop (dash + 2 + j) s) refl in
    record { option = o; name = w; named = n; is = n.named; stands = rw l (d1 ∙ ap (λ x. 45 ∷ 45 ∷ x) d2); answers = rw l a }

pub named_at : (s : List ℕ) (dash : ℕ) (r : Read OptionValue) → OptionAnswers s dash (listed r) → Named s dash r
unfolding option_at
named_at s dash r a =
    let j = name_length s (dash + 2) in
    let k = row_of option_table (take j (drop (dash + 2) s)) s (dash + 2 + j) r a.1 in
    let d : drop dash s ≡ 45 ∷ 45 ∷ drop 2 (drop dash s) = (front_exactly (text "--") (drop dash s)).0 a.0 in
    named_from s dash k.0 r
    (record { listed = k.1; dashes = span_of s dash (45 ∷ 45 ∷ []) (drop 2 (drop dash s)) (dash + 2) d refl; named = k.2 }) k.3

-- bytes that are parted after as many are parted alike
pub parted_alike : (x y z w : List ℕ) → length x ≡ length z → x ++ y ≡ z ++ w → (x ≡ z) × (y ≡ w)
parted_alike x y z w l e = (
  sym (take-append_seam x y) ∙ ap (take (length x)) e ∙ ap (λ n. take n (z ++ w)) l ∙ take-append_seam z w,
  sym (drop-append_seam x y) ∙ ap (drop (length x)) e ∙ ap (λ n. drop n (z ++ w)) l ∙ drop-append_seam z w,
)

-- a text of the option that stands at its dash: its name is the one that stands there, and the rest stands after it
pub form_stands : (s : List ℕ) (dash : ℕ) {r : Read OptionValue} (i : Named s dash r) (to : ℕ) (f : OfForm i.option (span s dash to))
    → (f.name ≡ i.name) × (drop (dash + 2 + length i.name) s ≡ f.rest ++ drop (to - dash) (drop dash s))
form_stands s dash i to f =
    let t = drop (to - dash) (drop dash s) in
    let l : length i.name ≡ length f.name = word_length i.name i.option.name i.is ∙ sym (word_length f.name i.option.name f.named) in
    let d : i.name ++ drop (dash + 2 + length i.name) s ≡ f.name ++ (f.rest ++ t) =
    ap (drop 2) (sym i.stands ∙ sym (take-append-drop (to - dash) (drop dash s)) ∙ ap (λ x. x ++ t) f.is) ∙ append_assoc f.name f.rest t in
    let k = parted_alike i.name (drop (dash + 2 + length i.name) s) f.name (f.rest ++ t) l d in
    (sym k.0, k.1)
