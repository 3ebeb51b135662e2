-- As many patterns are usable as there are, or fewer: the options of a text make one pattern item for each pattern option and no other, since no
-- option's form makes a test whose item is a pattern. That is shown row by row, of the function that makes the option.
use Rattle.std.specs.Prelude.{Option as Optional, None}
use mathlib.Core.Path.{◌≡◌, refl, sym, ap, subst, ◌∙◌}
use mathlib.Core.Bool.{Bool, true, false}
use mathlib.Core.List.Memᴰ.{head as first_one}
use mathlib.Core.List.Memᴰ.{tail as later-one}
use mathlib.Core.List.{List, [], ◌∷◌, Memᴰ as Mem}
use mathlib.Core.Logic.{◌↔◌}
use Prim.Native.Nat.{ℕ, suc, ◌≤◌}
use native.Mathlib.Omega.{arith}
use lib.ListN.{length}
use lib.Dec.{ltb}
use borrow.Author.Tests.{ltb-false, le-ltb}
use Rattle.forms.specs.Form.{Form, pure, fmap, Means}
use Rattle.forms.proofs.Bools.{by_cases, both_left, both_right}
use Rattle.forms.proofs.Sound.{never}
use Rattle.definitions.specs.declared.table.Pattern as table
use Rattle.definitions.specs.declared.packets.Match.{Match}
use Rattle.definitions.specs.Lists.{all?, keep, count}
use Rattle.definitions.specs.OptionValues.{OptionValue, Name, Protocol, Flow, Test, Pattern, Modified}
use Rattle.definitions.specs.Forms.{valued, closed}
use Rattle.definitions.specs.Options.{Option, option_table}
use Rattle.definitions.specs.Tables.{slots_in}
use Rattle.definitions.specs.Items.{Kind, unused, addressed, patterned, plain_test, kind_of, pattern_first, patterns_of}
use Rattle.definitions.specs.Starts.{start_at}
use Rattle.definitions.specs.References.{last_after, usable, usable_run, usable_in}
use Rattle.definitions.specs.Occurrences.{is_pattern}
use Rattle.definitions.specs.Grammar.{OptionText, option, OptionsBy, OptionsText, close, space}

-- ---- a test's item is no pattern

abbrev pub no_pattern : Kind → Bool
no_pattern unused = true
no_pattern (addressed a) = true
no_pattern (patterned p) = false
no_pattern plain_test = true

abbrev pub test_only : OptionValue → Bool
test_only (Name n) = true
test_only (Protocol p) = true
test_only (Flow f) = true
test_only (Test it al) = no_pattern (kind_of it)
test_only (Pattern n b) = true
test_only (Modified m) = true

-- so it is for all that the form makes
pub record Makes (f : Form OptionValue) : Type 0 where
  pub made_so : (x : List ℕ) (e : OptionValue) → Means true f x e → test_only e ≡ true

closed_value : (f : Form OptionValue) (x : List ℕ) (e : OptionValue) → Means true (closed f) x e → (y : List ℕ) × Means true f y e
unfolding Means
closed_value f x e m = (m.2.0, subst (λ v. Means true f m.2.0 v) (sym m.1) m.2.3)

valued_value : (f : Form OptionValue) (x : List ℕ) (e : OptionValue) → Means true (valued f) x e → (y : List ℕ) × Means true f y e
unfolding Means
valued_value f x e m = closed_value f m.2.1 e (subst (λ v. Means true (closed f) m.2.1 v) (sym m.1) m.2.4)

-- an option with a value: by the function that makes its option; an option without one: by its option
by_value : {A : Type 0} {h : A → OptionValue} {f : Form A} → ((a : A) → test_only (h a) ≡ true) → Makes (valued (fmap h f))
unfolding Means
by_value {A} {h} {f} t =
    record {
      made_so = λ x e m. let w = valued_value (fmap h f) x e m in ap test_only w.1.1 ∙ t w.1.0;
    }

by_itself : {d : OptionValue} → test_only d ≡ true → Makes (closed (pure d))
unfolding Means
by_itself {d} t =
    record {
      made_so = λ x e m. let w = closed_value (pure d) x e m in ap test_only w.1.1 ∙ t;
    }

infixr 5 ◌and◌
data RowsMake : List Option → Type 1 where
  done : RowsMake []
  ◌and◌ : {o : Option} {os : List Option} → Makes o.form → RowsMake os → RowsMake (o ∷ os)

row_makes : {o : Option} {os : List Option} → Mem o os → RowsMake os → Makes o.form
row_makes (first_one e) (m and ms) = subst (λ (z : Option). Makes z.form) (sym e) m
row_makes (later-one i) (m and ms) = row_makes i ms

-- in the order of the table
table_rows : RowsMake option_table
unfolding option_table
table_rows =
    by_value (λ n. refl)
    and by_value (λ p. refl)
    and by_value (λ f. refl)
    and by_value (λ a. refl)
    and by_value (λ a. refl)
    and by_itself refl
    and by_value (λ n. refl)
    and by_value (λ n. refl)
    and by_value (λ n. refl)
    and by_value (λ n. refl)
    and by_value (λ t. refl)
    and by_value (λ f. refl)
    and by_value (λ f. refl)
    and by_value (λ f. refl)
    and by_value (λ f. refl)
    and by_value (λ z. refl)
    and by_value (λ a. refl)
    and by_value (λ b. refl)
    and by_value (λ p. refl)
    and by_value (λ c. refl)
    and by_itself refl
    and by_value (λ d. refl)
    and by_value (λ w. refl)
    and done

pub option_tests : {x : List ℕ} {e : OptionValue} → OptionText x e → test_only e ≡ true
option_tests (option o n y {e} m q w) = (row_makes m table_rows).made_so y e w

pub options_tests : {l : List ℕ} {es : List OptionValue} → OptionsText l es → all? test_only es ≡ true
unfolding all?
options_tests close = refl
options_tests (space o) = options_tests o
options_tests (OptionsBy.more t o) = rw (option_tests t) (options_tests o)

-- ---- counts

pub skipped : (k : Kind) (ps : List table.Pattern) → no_pattern k ≡ true → pattern_first k ps ≡ ps
skipped unused ps t = refl
skipped (addressed a) ps t = refl
skipped (patterned p) ps t = never (cc)
skipped plain_test ps t = refl

-- as many pattern items as pattern options
pub patterns_counted : (es : List OptionValue) → all? test_only es ≡ true → length (patterns_of (slots_in es)) ≡ count is_pattern es
unfolding all? keep slots_in patterns_of
patterns_counted [] t = refl
patterns_counted (Name n ∷ es) t = patterns_counted es t
patterns_counted (Protocol p ∷ es) t = patterns_counted es t
patterns_counted (Flow f ∷ es) t = patterns_counted es t
patterns_counted (Test it al ∷ es) t = ap length (skipped (kind_of it) (patterns_of (slots_in es)) (both_left (no_pattern (kind_of it)) (all? test_only es) t))
    ∙ patterns_counted es (both_right (no_pattern (kind_of it)) (all? test_only es) t)
patterns_counted (Pattern n b ∷ es) t = ap suc (patterns_counted es t)
patterns_counted (Modified m ∷ es) t = patterns_counted es t

usable_run_le : (last : Optional Match) (ps : List table.Pattern) → usable_run last ps ≤ length ps
unfolding usable_run
usable_run_le last [] = omega arith
usable_run_le last (p ∷ ps) = by_cases (usable last p) (λ t. rw t (omega (arith, usable_run_le (last_after last p (start_at 0)) ps))) (λ t. rw t (omega arith))

pub usable_le : (es : List OptionValue) → all? test_only es ≡ true → usable_in es ≤ count is_pattern es
usable_le es t = let e = patterns_counted es t in omega (arith, e, usable_run_le None (patterns_of (slots_in es)))

-- no pattern is unusable exactly if as many are usable as there are
pub usable_exactly : (es : List OptionValue) → all? test_only es ≡ true → (ltb (usable_in es) (count is_pattern es) ≡ false) ↔ (usable_in es ≡ count is_pattern es)
usable_exactly es t = (
  λ e. let g = ltb-false (usable_in es) (count is_pattern es) e in omega (arith, g, usable_le es t),
  λ e. le-ltb (usable_in es) (count is_pattern es) (omega (arith, e)),
)
