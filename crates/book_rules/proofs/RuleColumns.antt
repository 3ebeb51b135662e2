-- A rule from its columns: with the LF, the tabs and the parts before the third of their forms the line is a rule, and without one of them it is none.
use Rattle.std.specs.Prelude.{Some, None}
use mathlib.Core.Path.{◌≡◌, sym, ap, ◌∙◌}
use mathlib.Core.Bool.{true, false, false≢true}
use mathlib.Core.List.{List}
use Prim.Native.Nat.{ℕ, ◌-◌, ◌≤◌}
use native.Mathlib.Omega.{arith}
use native.Mathlib.Nat.{zero-add}
use lib.ListN.{length}
use Rattle.definitions.specs.declared.books.State.{State}
use Rattle.definitions.specs.declared.books.Action.{Action}
use Rattle.definitions.specs.Parts.{contains, part_before, part_after, after_parts}
use Rattle.definitions.specs.Books.{is_state, state_of, is_action, action_of, is_rule, rule_number, rule_source, rule_of}
use Rattle.definitions.specs.LoadedBooks.{source_start, loaded_at}
use Rattle.line_parts.proofs.Delimiters.{after_le}
use Rattle.line_parts.proofs.Results.{failed_test, parsed_test, parsed_value}
use Rattle.book_rules.specs.RuleLines.{parsed_rule_number, parsed_state, parsed_action, parsed_rule}
use Rattle.book_rules.proofs.RuleNumbers.{failed_number, parsed_number_lem, number_value}

-- ---- what the answers for state and action tell

state_apart : (v : State) → Some v ≡ None → ⊥
state_apart v e = false≢true cc

state_same : (v w : State) → Some v ≡ Some w → v ≡ w
state_same v w e = cc

action_apart : (v : Action) → Some v ≡ None → ⊥
action_apart v e = false≢true cc

action_same : (v w : Action) → Some v ≡ Some w → v ≡ w
action_same v w e = cc

-- ---- the text stands no further into the line than the line is long

pub text_le : (l r1 r2 r3 : List ℕ) → r1 ≡ part_after 9 l → r2 ≡ part_after 9 r1 → r3 ≡ part_after 9 r2 → length r3 ≤ length l
text_le l r1 r2 r3 q1 q2 q3 = omega (arith, ap length q1, ap length q2, ap length q3, after_le 9 l, after_le 9 r1, after_le 9 r2)

-- ---- column by column

module _ (l : List ℕ) where
  not_rule : is_rule l ≡ false → None ≡ parsed_rule l
  unfolding parsed_rule
  not_rule e = rw e

  pub no_end : contains 10 l ≡ false → None ≡ parsed_rule l
  unfolding is_rule
  no_end e = not_rule (rw e)

  -- r1 and r2 are what stands after one tab and after two
  module _ (ended : contains 10 l ≡ true) (r1 r2 : List ℕ) (q1 : r1 ≡ part_after 9 l) (q2 : r2 ≡ part_after 9 r1) where
    two : r2 ≡ part_after 9 (part_after 9 l)
    two = q2 ∙ ap (part_after 9) q1

    pub few_tabs : contains 9 r2 ≡ false → None ≡ parsed_rule l
    unfolding is_rule after_parts
    few_tabs e = not_rule (rw (ended, ap (contains 9) (sym two) ∙ e))

    -- x, y and z are the parts before the tabs
    module _ (tabs : contains 9 r2 ≡ true) (x : List ℕ) (xe : x ≡ part_before 9 l) where
      third : contains 9 (part_after 9 (part_after 9 l)) ≡ true
      third = ap (contains 9) (sym two) ∙ tabs

      pub no_number : parsed_rule_number x ≡ None → None ≡ parsed_rule l
      unfolding is_rule after_parts
      no_number e = not_rule (rw (ended, third, ← xe, failed_number x e))

      module _ (n : ℕ) (ne : parsed_rule_number x ≡ Some n) (y : List ℕ) (ye : y ≡ part_before 9 r1) where
        second-part : y ≡ part_before 9 (part_after 9 l)
        second-part = ye ∙ ap (part_before 9) q1

        pub no-state : parsed_state y ≡ None → None ≡ parsed_rule l
        unfolding parsed_state is_rule after_parts
        no-state e =
            not_rule (rw (ended, third, ← xe, parsed_number_lem x n ne, ← second-part, failed_test Some None state_apart (is_state y) (state_of y) e))

        module _ (s : State) (se : parsed_state y ≡ Some s) (z : List ℕ) (ze : z ≡ part_before 9 r2) where
          third-part : z ≡ part_before 9 (part_after 9 (part_after 9 l))
          third-part = ze ∙ ap (part_before 9) two

          a-state : is_state y ≡ true
          unfolding parsed_state
          a-state = parsed_test Some None state_apart (is_state y) (state_of y) s se

          pub no-action : parsed_action z ≡ None → None ≡ parsed_rule l
          unfolding parsed_action is_rule after_parts
          no-action e =
              let none : is_action z ≡ false = failed_test Some None action_apart (is_action z) (action_of z) e in
              not_rule (rw (ended, third, ← xe, parsed_number_lem x n ne, ← second-part, a-state, ← third-part, none))

          -- r3 is what stands after the third tab, w the text
          pub one-rule :
              (a : Action) → parsed_action z ≡ Some a → (r3 w : List ℕ) → r3 ≡ part_after 9 r2 → w ≡ part_before 10 r3
              → Some (record { number = n; state = s; action = a; start = length l - length r3; len = length w }) ≡ parsed_rule l
          unfolding parsed_state parsed_action parsed_rule is_rule loaded_at rule_of rule_number rule_source source_start after_parts
          one-rule a ae r3 w q3 we =
              let an-action : is_action z ≡ true = parsed_test Some None action_apart (is_action z) (action_of z) a ae in
              let its-state : state_of y ≡ s = parsed_value Some None state_apart state_same (is_state y) (state_of y) s se in
              let its-action : action_of z ≡ a = parsed_value Some None action_apart action_same (is_action z) (action_of z) a ae in
              let rest : r3 ≡ part_after 9 (part_after 9 (part_after 9 l)) = q3 ∙ ap (part_after 9) two in
              rw (
                ended,
                third,
                ← xe,
                parsed_number_lem x n ne,
                ← second-part,
                a-state,
                ← third-part,
                an-action,
                number_value x n ne,
                its-state,
                its-action,
                we,
                rest,
                zero-add (source_start l),
              )
