-- TEXTS OF THE SAME OPTIONS have the same table, however the options are spelled: the bytes of a text decide its options (`one_options`), and nothing of a
-- text but its options goes into its table. By induction on two ways in which a text is made.
use mathlib.Core.Path.{◌≡◌, refl, sym, ap, subst, ◌∙◌}
use mathlib.Core.List.{List, [], ◌∷◌, ◌++◌}
use mathlib.Core.Logic.{◌↔◌}
use Prim.Native.Nat.{ℕ, ◌+◌}
use native.Mathlib.Omega.{arith}
use lib.ListN.{length, drop}
use lib.Seq.{drop-append_seam}
use Rattle.forms.specs.Place.{Parsed}
use Rattle.definitions.specs.declared.table.Table.{Table}
use Rattle.definitions.specs.OptionValues.{OptionValue}
use Rattle.definitions.specs.Options.{listed, printable, opening}
use Rattle.definitions.specs.Reading.{accepted_reading, read_unbounded}
use Rattle.definitions.specs.Grammar.{OptionText, OptionsBy, OptionsText, close, space, Derives}
use Rattle.syntax.proofs.Single.{option_dashes, option_read}
use Rattle.syntax.proofs.Exact.{syntax_exactly}
use Rattle.roundtrip.proofs.AllTests.{all_append}
use Rattle.roundtrip.proofs.Printed.{options_printed, printed_opening}

-- ---- one text, one list of options

-- the option at the front of some bytes, and what stands after it
front : (x y l m : List ℕ) (e f : OptionValue) → OptionText x e → OptionText y f → x ++ l ≡ y ++ m → (e ≡ f) × (l ≡ m)
front x y l m e f a b q =
    let s = x ++ l in
    let i : listed (Parsed e (0 + length x)) ≡ listed (Parsed f (0 + length y)) = sym (option_read a s 0 l refl) ∙ option_read b s 0 m q in
    let n : 0 + length x ≡ 0 + length y = cc in
    let k : length x ≡ length y = omega (arith, n) in
    (cc, sym (drop-append_seam x l) ∙ ap (λ n. drop n s) k ∙ ap (drop (length y)) q ∙ drop-append_seam y m)

same_first : (a b : ℕ) (l m : List ℕ) → a ∷ l ≡ b ∷ m → a ≡ b
same_first a b l m q = cc

-- an option begins with a dash
dash_first : (b : ℕ) (m x l : List ℕ) {e : OptionValue} → OptionText x e → b ∷ m ≡ x ++ l → b ≡ 45
dash_first b m x l a q =
    let d = option_dashes a in
    same_first b 45 m (45 ∷ (d.0 ++ l)) (q ∙ ap (λ y. y ++ l) d.1)

pub one_options : {l m : List ℕ} {es fs : List OptionValue} → OptionsText l es → OptionsText m fs → l ≡ m → es ≡ fs
one_options close close q = refl
one_options close (space {l = m} b) q = absurd (omega (arith, same_first 41 32 [] m q))
one_options close (OptionsBy.more {x} {l} b c) q = absurd (omega (arith, dash_first 41 [] x l b q))
one_options (space {l} a) close q = absurd (omega (arith, same_first 32 41 l [] q))
one_options (space {l} a) (space {l = m} b) q = let z : l ≡ m = cc in one_options a b z
one_options (space {l} a) (OptionsBy.more {x} {l = m} b c) q = absurd (omega (arith, dash_first 32 l x m b q))
one_options (OptionsBy.more {x} {l} a k) close q = absurd (omega (arith, dash_first 41 [] x l a (sym q)))
one_options (OptionsBy.more {x} {l} a k) (space {l = m} b) q = absurd (omega (arith, dash_first 32 m x l a (sym q)))
one_options (OptionsBy.more {x} {l} {e} {es} a k) (OptionsBy.more {x = y} {l = m} {e = f} {es = fs} b c) q =
    let i = front x y l m e f a b q in
    ap (λ (v : OptionValue). v ∷ es) i.0 ∙ ap (λ (vs : List OptionValue). f ∷ vs) (one_options k c i.1)

-- ---- one list of options, one table

respells : (room : ℕ) (t : Table) {l m : List ℕ} {es : List OptionValue} → OptionsText l es → OptionsText m es
    → Derives room (opening ++ l) t → Derives room (opening ++ m) t
respells room t {l} {m} a b d =
    let q : d.body ≡ l = sym (drop-append_seam opening d.body) ∙ ap (drop (length opening)) (sym d.framed) ∙ drop-append_seam opening l in
    record {
      body = m;
      values = d.values;
      framed = refl;
      printed = all_append printable opening m printed_opening (options_printed b);
      made = subst (λ (vs : List OptionValue). OptionsText m vs) (sym (one_options d.made a q)) b;
      occurrences = d.occurrences;
      usable = d.usable;
      complete = d.complete;
      table = d.table;
    }

pub same_options : (room : ℕ) (t : Table) {l m : List ℕ} {es : List OptionValue} → OptionsText l es → OptionsText m es
    → (read_unbounded room (opening ++ l) ≡ accepted_reading t) ↔ (read_unbounded room (opening ++ m) ≡ accepted_reading t)
same_options room t {l} {m} a b = (
  λ e. (syntax_exactly room (opening ++ m) t).1 (respells room t a b ((syntax_exactly room (opening ++ l) t).0 e)),
  λ e. (syntax_exactly room (opening ++ l) t).1 (respells room t b a ((syntax_exactly room (opening ++ m) t).0 e)),
)
