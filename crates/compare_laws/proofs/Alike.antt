-- NOTHING IS WRITTEN EXACTLY IF THE TWO LISTS OF RULES ARE EQUAL (`nothing_exactly`), for every two books: both are accepted, and number, state, action and
-- table are equal, rule by rule. Every line has bytes, and rules of one number without a line differ in nothing.
use Rattle.std.specs.Prelude.{Result, Ok, Err, ℕ}
use mathlib.Core.Path.{◌≡◌, refl}
use mathlib.Core.Logic.{◌↔◌}
use mathlib.Core.Bool.{Bool, true, false, not}
use mathlib.Core.List.{List, [], ◌∷◌, ◌++◌}
use Prim.Native.Nat.{ℕ}
use native.Mathlib.Omega.{arith}
use lib.Dec.{ltb}
use borrow.Author.Tests.{ltb-false, le-ltb, not-false}
use Rattle.forms.proofs.Bools.{by_cases}
use Rattle.forms.proofs.Sound.{never}
use Rattle.definitions.specs.declared.table.Table.{Table}
use Rattle.definitions.specs.declared.books.State.{State}
use Rattle.definitions.specs.declared.books.State.TheVariants as state
use Rattle.definitions.specs.declared.books.Action.{Action}
use Rattle.definitions.specs.declared.books.Action.TheVariants as action
use Rattle.definitions.specs.declared.answers.BookRefusal.{BookRefusal}
use Rattle.definitions.specs.Limits.{Limits}
use Rattle.definitions.specs.Books.{judge}
use Rattle.table_equality.specs.SameTables.{same_table}
use Rattle.table_equality.proofs.Exactly.{same_table_exactly}
use Rattle.compare_laws.specs.Comparisons.{ReadRule, read_rules, same_state, same_action, differing, differences, changed_line, both_line, new_line, old_line}
use Rattle.compare_laws.specs.Comparisons.{new_lines, merged_by, rules_output, refused_output, output_if, compare_output}

-- ---- two rules of one number

differing_none : (s a t : Bool) → differing s a t ≡ [] → (s ≡ false) × (a ≡ false) × (t ≡ false)
differing_none true a t e = never (cc)
differing_none false true t e = never (cc)
differing_none false false true e = never (cc)
differing_none false false false e = (refl, refl, refl)

pub state_exactly : (x y : State) → (same_state x y ≡ true) ↔ (x ≡ y)
state_exactly state.On state.On = (λ e. refl, λ e. refl)
state_exactly state.On state.Off = (λ e. never (cc), λ e. never (cc))
state_exactly state.Off state.On = (λ e. never (cc), λ e. never (cc))
state_exactly state.Off state.Off = (λ e. refl, λ e. refl)

pub action_exactly : (x y : Action) → (same_action x y ≡ true) ↔ (x ≡ y)
action_exactly action.Pass action.Pass = (λ e. refl, λ e. refl)
action_exactly action.Pass action.Hold = (λ e. never (cc), λ e. never (cc))
action_exactly action.Hold action.Pass = (λ e. never (cc), λ e. never (cc))
action_exactly action.Hold action.Hold = (λ e. refl, λ e. refl)

-- a rule is its four fields
rules_equal : {n m : ℕ} {s z : State} {c d : Action} {t u : Table} → n ≡ m → s ≡ z → c ≡ d → t ≡ u
    → ◌≡◌ {A = ReadRule} (record { number = n; state = s; action = c; table = t }) (record { number = m; state = z; action = d; table = u })
rules_equal p q r v = cc

changed_none : (n : ℕ) (ws : List (List ℕ)) → changed_line n ws ≡ [] → ws ≡ []
changed_none n [] e = refl
changed_none n (w ∷ ws) e = never (cc)

both_none : (a b : ReadRule) → a.number ≡ b.number → both_line a b ≡ [] → a ≡ b
unfolding both_line differences
both_none a b n e =
    let t = same_table a.table b.table in
    let d = differing_none (not (same_state a.state b.state)) (not (same_action a.action b.action)) (not t) (changed_none a.number _ e) in
    let s = (state_exactly a.state b.state).0 (not-false (same_state a.state b.state) d.0) in
    let c = (action_exactly a.action b.action).0 (not-false (same_action a.action b.action) d.1) in
    rules_equal n s c ((same_table_exactly a.table b.table).0 (not-false t d.2))

none_both : (a : ReadRule) → both_line a a ≡ []
unfolding both_line differences
none_both a = rw ((state_exactly a.state a.state).1 refl, (action_exactly a.action a.action).1 refl, (same_table_exactly a.table a.table).1 refl)

-- ---- two lists

no_part : (x y : List ℕ) → x ++ y ≡ [] → (x ≡ []) × (y ≡ [])
no_part [] y e = (refl, e)
no_part (b ∷ x) y e = never (cc)

none_equal : (xs ys : List ReadRule) → rules_output xs ys ≡ [] → xs ≡ ys
unfolding rules_output merged_by new_lines
none_equal [] [] e = refl
none_equal [] (b ∷ ys) e = never (cc)
none_equal (a ∷ xs) [] e = never (cc)
none_equal (a ∷ xs) (b ∷ ys) e =
    by_cases (ltb a.number b.number)
    (λ t. let z : old_line a ++ rules_output xs (b ∷ ys) ≡ [] = rw t at e in never (cc))
    (λ f.
    by_cases (ltb b.number a.number)
    (λ t. let z : new_line b ++ rules_output (a ∷ xs) ys ≡ [] = rw (f, t) at e in never (cc))
    (λ g.
    let z : both_line a b ++ rules_output xs ys ≡ [] = rw (f, g) at e in
    let p = no_part (both_line a b) (rules_output xs ys) z in
    let n : a.number ≡ b.number = omega (arith, ltb-false a.number b.number f, ltb-false b.number a.number g) in
    let h = both_none a b n p.0 in
    let i = none_equal xs ys p.1 in
    cc))

equal_none : (xs : List ReadRule) → rules_output xs xs ≡ []
unfolding rules_output merged_by new_lines
equal_none [] = refl
equal_none (a ∷ xs) = rw (le-ltb a.number a.number (omega arith), none_both a) (equal_none xs)

-- ---- two books

-- by two judgements and two lists of rules
output_none : (j k : Result ℕ BookRefusal) (xs ys : List ReadRule) → (output_if j k xs ys ≡ [])
    ↔ (((n : ℕ) × (j ≡ Ok n)) × ((m : ℕ) × (k ≡ Ok m)) × (xs ≡ ys))
unfolding refused_output
output_none (Err e') k xs ys = (λ e. never (cc), λ e. never (cc e.0.1))
output_none (Ok n) (Err e') xs ys = (λ e. never (cc), λ e. never (cc e.1.1))
output_none (Ok n) (Ok m) xs ys = (λ e. ((n, refl), (m, refl), none_equal xs ys e), λ e. rw e.2 (equal_none ys))

pub nothing_exactly : (lim : Limits) (first second : List ℕ) → (compare_output lim first second ≡ [])
    ↔ (((n : ℕ) × (judge lim first ≡ Ok n)) × ((m : ℕ) × (judge lim second ≡ Ok m)) × (read_rules lim first ≡ read_rules lim second))
unfolding compare_output
nothing_exactly lim first second = output_none (judge lim first) (judge lim second) (read_rules lim first) (read_rules lim second)
