-- A refused reading has a place at most the text's length (`place_within`), and never beyond the limit of a text (`place_most`), and a number from 1 to 12.
-- The options are read left to right; each place is where the reading stands, an option's first dash before it, or one that the option's form answers with,
-- and none of these lies after the text.
use Rattle.std.specs.Prelude.{if◌then◌else◌, Result, Ok, Err}
use mathlib.Core.Path.{◌≡◌, refl, ap, subst}
use mathlib.Core.Bool.{Bool, true, false, not, ◌&&◌, ◌||◌, false≢true}
use mathlib.Core.List.{List, [], ◌∷◌, ◌++◌, map}
use Prim.Native.Nat.{ℕ, zero, suc, ◌+◌, ◌-◌, ◌≤◌}
use native.Mathlib.Omega.{arith}
use lib.ListN.{length, get_or, take, drop, length-take, length-drop}
use lib.Dec.{eqb, ltb, leb}
use borrow.Author.Tests.{ltb-true, ltb-false, not-false}
use Rattle.forms.specs.Bytes.{same_word, run}
use Rattle.forms.specs.Scan.{Scan, Got, Stop, scan, over}
use Rattle.forms.specs.Place.{Parsed, OutOfRange, Failed, placed, read_at}
use Rattle.forms.proofs.Bools.{by_cases}
use Rattle.definitions.specs.declared.answers.Refusal.{Refusal}
use Rattle.definitions.specs.declared.answers.Refusal.TheVariants as refusal
use Rattle.definitions.specs.declared.answers.Reading.{Reading}
use Rattle.definitions.specs.declared.answers.TextRefusal.{TextRefusal}
use Rattle.definitions.specs.Limits.{Limits, max_tests, max_patterns, max_addresses}
use Rattle.definitions.specs.Lists.{any?, none?, keep, keep_one, count, same_bytes}
use Rattle.definitions.specs.Refusals.{number_of, read_place}
use Rattle.definitions.specs.OptionValues.{OptionValue, Name, Protocol, Flow, Test, Pattern, Modified}
use Rattle.definitions.specs.Options.{Option, option_table, NamedOption, unlisted, listed, named_option, name_length, option_at, printable, opening}
use Rattle.definitions.specs.Occurrences.{is_test, is_pattern, same_kind, same_modifier, latest, occurrence_check, missing}
use Rattle.definitions.specs.Reading.{Located, option_values_of, Options, ended, refused, unless_refused, at_letter, option_step, is_space, dashes, options}
use Rattle.definitions.specs.Reading.{pattern_dash, checked_table, finished, unbounded_placing, read_placing, read_unbounded, read}
use Rattle.definitions.specs.References.{usable_in}
use Rattle.laws.proofs.Checks.{among, CheckAmong, refuse_by}

-- the numbers of a reading
abbrev pub read_causes : List ℕ
read_causes = 0 ∷ 1 ∷ 2 ∷ 3 ∷ 4 ∷ 5 ∷ 6 ∷ 7 ∷ 8 ∷ 9 ∷ 10 ∷ 11 ∷ 12 ∷ []

-- a refusal with such a number, at a place up to n
abbrev Fits : ℕ → Refusal → ℕ → Type 0
Fits n r p = (among read_causes (number_of r) ≡ true) × (p ≤ n)

-- ---- what is due for an option: 8, 9, 11 or nothing

pub due_for : (Q : Result Unit Refusal → Type 0) → Q (Ok tt) → Q (Err refusal.Repeated) → Q (Err refusal.ModifierWithoutPattern)
    → Q (Err refusal.CountExceeded) → (es : List OptionValue) (e : OptionValue) → Q (occurrence_check es e)
unfolding occurrence_check
due_for Q none eight nine eleven es (Name n) = refuse_by Q (any? (same_kind (Name n)) es) refusal.Repeated (Ok tt) eight none
due_for Q none eight nine eleven es (Protocol p) = refuse_by Q (any? (same_kind (Protocol p)) es) refusal.Repeated (Ok tt) eight none
due_for Q none eight nine eleven es (Flow f) = refuse_by Q (any? (same_kind (Flow f)) es) refusal.Repeated (Ok tt) eight none
due_for Q none eight nine eleven es (Test it al) =
    refuse_by Q (ltb max_addresses (length al) || leb max_tests (count is_test es)) refusal.CountExceeded (Ok tt) eleven none
due_for Q none eight nine eleven es (Pattern n b) = refuse_by Q (leb max_patterns (count is_pattern es)) refusal.CountExceeded (Ok tt) eleven none
due_for Q none eight nine eleven es (Modified m) =
    refuse_by Q (eqb (count is_pattern es) 0) refusal.ModifierWithoutPattern _ nine
    (refuse_by Q (any? (same_modifier m) (latest [] es)) refusal.Repeated (Ok tt) eight none)

-- ---- the options: every dash stands up to n

abbrev Dashes : ℕ → List Located → Type 0
Dashes n [] = Unit {0}
Dashes n (d ∷ located) = (d.dash ≤ n) × Dashes n located

dashes_snoc : (n : ℕ) (located : List Located) (d : Located) → Dashes n located → d.dash ≤ n → Dashes n (located ++ (d ∷ []))
dashes_snoc n [] d h l = (l, tt)
dashes_snoc n (x ∷ located) d h l = (h.0, dashes_snoc n located d h.1 l)

dash_within : (n k : ℕ) (located : List Located) → Dashes n located → pattern_dash located k ≤ n
unfolding keep
dash_within n k [] h = omega arith
dash_within n k (d ∷ located) h = go (is_pattern d.value) k (λ i. dash_within n i located h.1)
  where
    go : (b : Bool) (i : ℕ) → ((j : ℕ) → pattern_dash located j ≤ n)
        → get_or (map (λ (x : Located). x.dash) (keep_one b d (keep (λ (x : Located). is_pattern x.value) located))) i 0 ≤ n
    go true zero ih = h.0
    go true (suc i) ih = ih i
    go false i ih = ih i

abbrev OptionsFit : ℕ → Options → Type 0
OptionsFit n (ended located) = Dashes n located
OptionsFit n (refused r p) = Fits n r p

options_if : (n : ℕ) (b : Bool) (x y : Options) → OptionsFit n x → OptionsFit n y → OptionsFit n (if b then x else y)
options_if n true x y hx hy = hx
options_if n false x y hx hy = hy

unless_fit : (n : ℕ) (d : Result Unit Refusal) (at : ℕ) (k : Options) → CheckAmong read_causes d → at ≤ n → OptionsFit n k
    → OptionsFit n (unless_refused d at k)
unless_fit n (Ok tt) at k e l h = h
unless_fit n (Err r) at k e l h = (e, l)

-- ---- the places that an option's form answers with

abbrev FormFits : ℕ → NamedOption → Type 0
FormFits n unlisted = Unit {0}
FormFits n (listed (Failed p)) = p ≤ n
FormFits n (listed (OutOfRange p next)) = p ≤ n
FormFits n (listed (Parsed e next)) = Unit {0}

placed_fits : (s : List ℕ) (o : List (List ℕ)) (u : Scan OptionValue) → FormFits (length s) (listed (placed s o u))
placed_fits s [] (Got v r) = tt
placed_fits s (x ∷ o) (Got v r) = omega arith
placed_fits s o (Stop r) = omega arith

named_fits : (os : List Option) (n s : List ℕ) (at : ℕ) → FormFits (length s) (named_option os n s at)
unfolding named_option read_at
named_fits [] n s at = tt
named_fits (o ∷ os) n s at =
    by_cases (same_word n o.name) (λ t. rw t (placed_fits s (over o.form (drop at s)) (scan o.form (drop at s)))) (λ t. rw t (named_fits os n s at))

option_fits_lem : (s : List ℕ) (at : ℕ) → FormFits (length s) (option_at s at)
unfolding option_at
option_fits_lem s at = named_fits option_table (take (name_length s (at + 2)) (drop (at + 2) s)) s (at + 2 + name_length s (at + 2))

taken_fit : (n : ℕ) (o : NamedOption) → FormFits n o → (es : List OptionValue) (at : ℕ) (k : OptionValue → ℕ → Options) → at ≤ n
    → ((e : OptionValue) (next : ℕ) → OptionsFit n (k e next)) → OptionsFit n (option_step at_letter o es at k)
unfolding any?
taken_fit n unlisted f es at k l h = (refl, l)
taken_fit n (listed (Failed p)) f es at k l h = (refl, f)
taken_fit n (listed (OutOfRange p next)) f es at k l h = (refl, f)
taken_fit n (listed (Parsed e next)) f es at k l h =
    unless_fit n (occurrence_check es e) at (k e next) (due_for (CheckAmong read_causes) refl refl refl refl es e) l (h e next)

options_fit : (s l : List ℕ) (passed at : ℕ) (located : List Located) → at + length l ≡ length s → Dashes (length s) located
    → OptionsFit (length s) (options at_letter s l passed at located)
unfolding options any?
options_fit s [] passed at located e h = (refl, omega arith)
options_fit s (b ∷ l) (suc passed) at located e h = options_fit s l passed (at + 1) located (omega arith) h
options_fit s (b ∷ l) zero at located e h =
    options_if (length s) (is_space b) _ _ (options_fit s l zero (at + 1) located (omega arith) h)
    (options_if (length s) (eqb b 41) _ _
    (options_if (length s) (none? l) _ _ h (refl, omega arith))
    (options_if (length s) (dashes (b ∷ l)) _ _
    (taken_fit (length s) (option_at s at) (option_fits_lem s at) (option_values_of located) at _ (omega arith)
    (λ o next. options_fit s l (next - (at + 1)) (at + 1) (located ++ (record { dash = at; value = o } ∷ [])) (omega arith)
    (dashes_snoc (length s) located (record { dash = at; value = o }) h (omega arith))))
    (refl, omega arith)))

-- ---- the whole text

abbrev pub OutcomeFits : ℕ → Result Unit TextRefusal → Type 0
OutcomeFits n (Ok tt) = Unit {0}
OutcomeFits n (Err e) = Fits n e.refusal e.place

reading_if : (n : ℕ) (b : Bool) (x y : Reading) → (b ≡ true → OutcomeFits n x.outcome) → (b ≡ false → OutcomeFits n y.outcome)
    → OutcomeFits n (if b then x else y).outcome
reading_if n true x y hx hy = hx refl
reading_if n false x y hx hy = hy refl

checked_fit : (room : ℕ) (s : List ℕ) (located : List Located) → Dashes (length s) located → OutcomeFits (length s) (checked_table room s located).outcome
unfolding checked_table any?
checked_fit room s located h =
    reading_if (length s) (ltb (usable_in (option_values_of located)) (count is_pattern (option_values_of located))) _ _
    (λ e. (refl, dash_within (length s) (usable_in (option_values_of located)) located h))
    (λ f. reading_if (length s) (missing (option_values_of located)) _ _ (λ e. (refl, omega arith)) (λ g. tt))

finished_fit : (room : ℕ) (s : List ℕ) (o : Options) → OptionsFit (length s) o → OutcomeFits (length s) (finished room s o).outcome
finished_fit room s (ended located) h = checked_fit room s located h
finished_fit room s (refused r p) h = h

-- a text that opens as it must has a byte for each of the opening
same_length : (x y : List ℕ) → same_bytes x y ≡ true → length x ≡ length y
unfolding same_bytes
same_length [] [] e = refl
same_length [] (b ∷ y) e = absurd (false≢true e)
same_length (a ∷ x) [] e = absurd (false≢true e)
same_length (a ∷ x) (b ∷ y) e = go (eqb a b) e (same_length x y)
  where
    go : (t : Bool) → (t && same_bytes x y) ≡ true → (same_bytes x y ≡ true → length x ≡ length y) → suc (length x) ≡ suc (length y)
    go true h ih = ap suc (ih h)
    go false h ih = absurd (false≢true h)

opened : (s : List ℕ) → same_bytes (take (length opening) s) opening ≡ true → length opening + length (drop (length opening) s) ≡ length s
opened s e =
    let n = same_length (take (length opening) s) opening e in
    let t = length-take (length opening) s in
    let d = length-drop (length opening) s in
    omega (arith, n, t, d)

unbounded_fits : (room : ℕ) (s : List ℕ) → OutcomeFits (length s) (read_unbounded room s).outcome
unfolding unbounded_placing any?
unbounded_fits room s =
    reading_if (length s) (none? s) _ _ (λ e. (refl, omega arith)) (λ f.
    reading_if (length s) (ltb (run printable s) (length s)) _ _ (λ e. (refl, let h = ltb-true (run printable s) (length s) e in omega arith)) (λ g.
    reading_if (length s) (not (same_bytes (take (length opening) s) opening)) _ _ (λ e. (refl, omega arith)) (λ h.
    finished_fit room s (options at_letter s (drop (length opening) s) 0 (length opening) [])
    (options_fit s (drop (length opening) s) 0 (length opening) [] (opened s (not-false (same_bytes (take (length opening) s) opening) h)) tt))))

pub read_fits : (lim : Limits) (s : List ℕ) → OutcomeFits (length s) (read lim s).outcome
unfolding read_placing any?
read_fits lim s = reading_if (length s) (ltb lim.text (length s)) _ _ (λ e. (refl, omega arith)) (λ f. unbounded_fits lim.room s)

pub place_within : (lim : Limits) (s : List ℕ) (r : Refusal) (p : ℕ) → (read lim s).outcome ≡ Err (record { refusal = r; place = p }) → p ≤ length s
place_within lim s r p e = (subst (OutcomeFits (length s)) e (read_fits lim s)).1

-- a text beyond the limit has place 0
long_place : (lim : Limits) (s : List ℕ) → ltb lim.text (length s) ≡ true → read_place (read lim s).outcome ≤ lim.text
unfolding read_placing
long_place lim s t = rw t (omega arith)

-- nor does a place lie beyond the limit of a text
outcome_place : (n : ℕ) (o : Result Unit TextRefusal) → OutcomeFits n o → read_place o ≤ n
outcome_place n (Ok tt) h = omega arith
outcome_place n (Err e) h = h.1

pub place_most : (lim : Limits) (s : List ℕ) → read_place (read lim s).outcome ≤ lim.text
place_most lim s =
    by_cases (ltb lim.text (length s))
    (λ t. long_place lim s t)
    (λ f. let h = outcome_place (length s) (read lim s).outcome (read_fits lim s) in omega (arith, h, ltb-false lim.text (length s) f))
