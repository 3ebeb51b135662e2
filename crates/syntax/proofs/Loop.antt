-- The options of a text: the reader's loop ends after some options exactly if the bytes are the text of these options, each of which may stand
-- after those before it. Complete by induction on the text, sound by induction on the bytes.
use Rattle.std.specs.Prelude.{if◌then◌else◌, Result, Ok, Err}
use mathlib.Core.Path.{◌≡◌, refl, sym, ap, subst, ◌∙◌}
use mathlib.Core.Bool.{true}
use mathlib.Core.List.{List, [], ◌∷◌, ◌++◌, append_assoc, append-nil}
use Prim.Native.Nat.{ℕ, zero, suc, ◌+◌, ◌-◌}
use native.Mathlib.Omega.{arith}
use native.Mathlib.Nat.{add-zero}
use lib.ListN.{length, drop}
use lib.Seq.{drop-drop}
use lib.Dec.{eqb}
use borrow.Author.Tests.{eqb-true}
use Rattle.forms.specs.Bytes.{text}
use Rattle.forms.specs.Place.{Parsed, OutOfRange, Failed}
use Rattle.forms.proofs.Sound.{never}
use Rattle.definitions.specs.declared.answers.Refusal.TheVariants as refusal
use Rattle.definitions.specs.declared.answers.Refusal.{Refusal}
use Rattle.definitions.specs.Lists.{none?, same_bytes}
use Rattle.definitions.specs.OptionValues.{OptionValue}
use Rattle.definitions.specs.Options.{NamedOption, unlisted, listed, option_at}
use Rattle.definitions.specs.Occurrences.{occurrence_check}
use Rattle.definitions.specs.Reading.{Located, option_values_of, Options, ended, refused, unless_refused, at_letter, option_step, is_space, dashes, options}
use Rattle.definitions.specs.Grammar.{OptionText, option, OptionsBy, OptionsText, close, space, Occurrences, none}
use Rattle.syntax.proofs.Truths.{cases, impossible}
use Rattle.syntax.proofs.Frame.{after, front_exactly}
use Rattle.syntax.proofs.Single.{option_dashes, option_read, read_option}

-- one more option, located by the place of its dash
abbrev pub joined : List Located → ℕ → OptionValue → List Located
joined located at e = located ++ (record { dash = at; value = e } ∷ [])

pub joined_options : (located : List Located) (at : ℕ) (e : OptionValue) → option_values_of (joined located at e) ≡ option_values_of located ++ (e ∷ [])
joined_options [] at e = refl
joined_options (d ∷ located) at e = ap (λ es. d.value ∷ es) (joined_options located at e)

-- ---- complete

-- the bytes of the option that was read last are passed over
pub passed_over : (s x l : List ℕ) (at : ℕ) (located : List Located)
    → options at_letter s (x ++ l) (length x) at located ≡ options at_letter s l 0 (at + length x) located
unfolding options
passed_over s [] l at located = ap (λ n. options at_letter s l 0 n located) (sym (add-zero at))
passed_over s (b ∷ x) l at located =
    let e : at + 1 + length x ≡ at + suc (length x) = omega arith in
    passed_over s x l (at + 1) located ∙ ap (λ n. options at_letter s l 0 n located) e

-- an option's text is read, and the loop goes on after it
option_taken : {x : List ℕ} {e : OptionValue} → OptionText x e → (s : List ℕ) (at : ℕ) (l : List ℕ) (located : List Located) → drop at s ≡ x ++ l
    → occurrence_check (option_values_of located) e ≡ Ok tt
    → options at_letter s (x ++ l) 0 at located ≡ options at_letter s l 0 (at + length x) (joined located at e)
unfolding options same_bytes
option_taken (option o n y {e} m q w) s at l located d f =
    let x : List ℕ = 45 ∷ (n ++ y) in
    let p = option_read (option o n y m q w) s at l d in
    let g : at + suc (length x) - (at + 1) ≡ length x = omega arith in
    let k : at + 1 + length x ≡ at + suc (length x) = omega arith in
    rw (p, f, g) (passed_over s x l (at + 1) (joined located at e) ∙ ap (λ i. options at_letter s l 0 i (joined located at e)) k)

-- the loop ends, with these options after those that were there
abbrev pub Ends : List ℕ → List ℕ → ℕ → List Located → List OptionValue → Type 0
Ends s l at located es = (final : List Located) × (options at_letter s l 0 at located ≡ ended final) × (option_values_of final ≡ option_values_of located ++ es)

standing_parts : {before es : List OptionValue} {e : OptionValue} → Occurrences before (e ∷ es)
    → (occurrence_check before e ≡ Ok tt) × Occurrences (before ++ (e ∷ [])) es
standing_parts (Occurrences.more f st) = (f, st)

pub options_read_lem : {l : List ℕ} {es : List OptionValue} → OptionsText l es → (s : List ℕ) (at : ℕ) (located : List Located)
    → Occurrences (option_values_of located) es → drop at s ≡ l → Ends s l at located es
unfolding options
options_read_lem close s at located st d = (located, refl, sym (append-nil (option_values_of located)))
options_read_lem (space {l} o) s at located st d = options_read_lem o s (at + 1) located st (after s at (32 ∷ []) l d)
options_read_lem (OptionsBy.more {x} {l} {e} {es} t o) s at located st d =
    let p = standing_parts st in
    let i = options_read_lem o s (at + length x) (joined located at e) (subst (λ b. Occurrences b es) (sym (joined_options located at e)) p.1)
    (after s at x l d) in (
      i.0,
      option_taken t s at l located d p.0 ∙ i.1,
      i.2 ∙ ap (λ b. b ++ es) (joined_options located at e)
          ∙ append_assoc (option_values_of located) (e ∷ []) es,
    )

-- ---- sound

check_split : (u : Result Unit Refusal) (at : ℕ) (k : Options) (final : List Located) → unless_refused u at k ≡ ended final → (u ≡ Ok tt) × (k ≡ ended final)
check_split (Ok tt) at k final q = (refl, q)
check_split (Err r) at k final q = never (cc)

taken_split : (p : NamedOption) (es : List OptionValue) (at : ℕ) (k : OptionValue → ℕ → Options) (final : List Located)
    → option_step at_letter p es at k ≡ ended final
    → (e : OptionValue) × (next : ℕ) × (p ≡ listed (Parsed e next)) × (occurrence_check es e ≡ Ok tt) × (k e next ≡ ended final)
taken_split unlisted es at k final q = never (cc)
taken_split (listed (Parsed e next)) es at k final q = let i = check_split (occurrence_check es e) at (k e next) final q in (e, next, refl, i.0, i.1)
taken_split (listed (OutOfRange p next)) es at k final q = never (cc)
taken_split (listed (Failed p)) es at k final q = never (cc)

-- the text of some options that may stand after those located so far, and with them are the final ones
abbrev pub Extends : List ℕ → List Located → List Located → Type 1
Extends l located final =
    (es : List OptionValue) × OptionsText l es × Occurrences (option_values_of located) es × (option_values_of final ≡ option_values_of located ++ es)

none_nil : {A : Type 0} (l : List A) → none? l ≡ true → l ≡ []
none_nil [] e = refl
none_nil (x ∷ l) e = never (cc)

module _ (s : List ℕ) (b : ℕ) (l : List ℕ) (at : ℕ) (located final : List Located) where
  space_extends : is_space b ≡ true → Extends l located final → Extends (b ∷ l) located final
  space_extends t i = (i.0, rw (eqb-true b 32 t) (space i.1), i.2, i.3)

  close_extends : eqb b 41 ≡ true → (if none? l then ended located else refused refusal.NeitherOptionNorEnd (at + 1)) ≡ ended final
      → Extends (b ∷ l) located final
  close_extends t q =
      cases (none? l)
      (λ u.
      let z : ended located ≡ ended final = rw u at q in
      let y : located ≡ final = cc in
      ([], rw (eqb-true b 41 t, none_nil l u) close, none, ap option_values_of (sym y) ∙ sym (append-nil (option_values_of located))))
      (λ u. let z : refused refusal.NeitherOptionNorEnd (at + 1) ≡ ended final = rw u at q in impossible (cc))

  option_extends : drop at s ≡ b ∷ l → dashes (b ∷ l) ≡ true → (e : OptionValue) (next : ℕ) → option_at s at ≡ listed (Parsed e next)
      → occurrence_check (option_values_of located) e ≡ Ok tt → Extends (drop (next - (at + 1)) l) (joined located at e) final → Extends (b ∷ l) located final
  option_extends d t e next p f i =
      let w : b ∷ l ≡ 45 ∷ 45 ∷ drop 2 (b ∷ l) = (front_exactly (text "--") (b ∷ l)).0 t in
      let o = read_option s at next e (drop 2 (b ∷ l)) (d ∙ w) p in
      let y = option_dashes o.1 in
      let n : next ≡ at + suc (suc (length y.0)) = o.3 ∙ ap (λ x. at + length x) y.1 in
      let g : at + 1 + (next - (at + 1)) ≡ next = omega (arith, n) in
      let h : drop (next - (at + 1)) l ≡ drop next s =
      ap (drop (next - (at + 1))) (sym (after s at (b ∷ []) l d)) ∙ drop-drop (next - (at + 1)) (at + 1) s ∙ ap (λ k. drop k s) g in
      let z : o.0 ++ drop (next - (at + 1)) l ≡ b ∷ l = ap (λ r. o.0 ++ r) h ∙ sym o.2 ∙ d in (
        e ∷ i.0,
        subst (λ r. OptionsText r (e ∷ i.0)) z (OptionsBy.more o.1 i.1),
        Occurrences.more f (subst (λ r. Occurrences r i.0) (joined_options located at e) i.2),
        i.3 ∙ ap (λ r. r ++ i.0) (joined_options located at e) ∙ append_assoc (option_values_of located) (e ∷ []) i.0,
      )

pub ended_options : (s l : List ℕ) (passed at : ℕ) (located final : List Located) → drop at s ≡ l → options at_letter s l passed at located ≡ ended final
    → Extends (drop passed l) located final
unfolding options
ended_options s [] passed at located final d q = impossible (cc)
ended_options s (b ∷ l) (suc passed) at located final d q = ended_options s l passed (at + 1) located final (after s at (b ∷ []) l d) q
ended_options s (b ∷ l) zero at located final d q =
    let d1 = after s at (b ∷ []) l d in
    cases (is_space b)
    (λ t. space_extends s b l at located final t (ended_options s l zero (at + 1) located final d1 (rw t at q)))
    (λ t. cases (eqb b 41)
    (λ u. close_extends s b l at located final u (rw (t, u) at q))
    (λ u. cases (dashes (b ∷ l))
    (λ w.
    let p = taken_split (option_at s at) (option_values_of located) at (λ e next. options at_letter s l (next - (at + 1)) (at + 1) (joined located at e)) final
    (rw (t, u, w) at q) in
    option_extends s b l at located final d w p.0 p.1 p.2 p.3
    (ended_options s l (p.1 - (at + 1)) (at + 1) (joined located at p.0) final d1 p.4))
    (λ w. let z : refused refusal.NeitherOptionNorEnd at ≡ ended final = rw (t, u, w) at q in impossible (cc))))
