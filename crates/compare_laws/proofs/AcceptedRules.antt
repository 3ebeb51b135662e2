-- THE RULES OF AN ACCEPTED BOOK: their numbers rise and lie from 1 to 65535 (`accepted_between`), and there are at most 64 (`accepted_few`). Each line has
-- passed.
use Rattle.std.specs.Prelude.{Ok}
use mathlib.Core.Path.{◌≡◌}
use mathlib.Core.Bool.{true, not, ◌&&◌}
use mathlib.Core.List.{List, [], ◌∷◌, map}
use Prim.Native.Nat.{ℕ, suc, ◌+◌, ◌≤◌, ◌<◌}
use native.Mathlib.Omega.{arith}
use lib.Dec.{eqb, ltb}
use lib.ListN.{length, length-map, get_or}
use borrow.Author.Tests.{ltb-false, not-false}
use Rattle.forms.proofs.Bools.{both_left, both_right}
use Rattle.definitions.specs.declared.answers.Refusal.TheVariants as refusal
use Rattle.definitions.specs.Limits.{Limits, max_word, max_rules}
use Rattle.definitions.specs.Numbers.{is_number}
use Rattle.definitions.specs.Parts.{contains, after_parts, part}
use Rattle.definitions.specs.Books.{Rule, book_lines, is_rule_number, is_state, is_action, is_rule, rule_number, rule_of, rules_of, line_check, judge_lines, judge}
use Rattle.laws.proofs.Checks.{refuse_fine}
use Rattle.book_laws.proofs.Rising.{Rises, passed_line, accepted_book, rules_rise}
use Rattle.line_numbers.proofs.Digits.{number_le}
use Rattle.compare_laws.specs.Comparisons.{ReadRule, read_rule, read_rules}

-- rising numbers after k, up to m
unfoldable pub Between : ℕ → ℕ → List ReadRule → Type 0
Between k m [] = Unit {0}
Between k m (r ∷ rs) = (k < r.number) × (r.number ≤ m) × Between r.number m rs

-- every number is one of two bytes
unfoldable Words : List Rule → Type 0
Words [] = Unit {0}
Words (r ∷ rs) = (r.number ≤ max_word) × Words rs

rule_word : (l : List ℕ) → is_rule l ≡ true → rule_number l ≤ max_word
unfolding is_rule is_rule_number rule_number
rule_word l t =
    let n = part 9 0 l in
    let numbered = is_number max_word n in
    let words = is_state (part 9 1 l) && is_action (part 9 2 l) in
    let columns = contains 9 (after_parts 9 2 l) in
    let rest = (numbered && not (eqb (get_or n 0 0) 48)) && words in
    let a = both_right columns rest (both_right (contains 10 l) (columns && rest) t) in
    number_le max_word n (both_left numbered _ (both_left (numbered && not (eqb (get_or n 0 0) 48)) words a))

module _ (lim : Limits) where
  -- a line that passes is a rule, and none after the last
  passed_is : (n last : ℕ) (l : List ℕ) → line_check lim n last l ≡ Ok tt → (n ≤ max_rules) × (is_rule l ≡ true)
  unfolding line_check
  passed_is n last l e =
      let a = refuse_fine (ltb max_rules n) refusal.RuleCount _ e in
      let b = refuse_fine (not (is_rule l)) refusal.RuleForm _ a.1 in
      (ltb-false max_rules n a.0, not-false (is_rule l) b.0)

  lines_are : (n last : ℕ) (ls : List (List ℕ)) (k : ℕ) → n ≤ max_rules → judge_lines lim n last ls ≡ Ok k
      → (n + length ls ≤ max_rules) × Words (map rule_of ls)
  unfolding judge_lines Words rule_of
  lines_are n last [] k h e = (omega (arith, h), tt)
  lines_are n last (l ∷ ls) k h e =
      let w = passed_line (line_check lim (suc n) last l) (suc n) k _ e in
      let p = passed_is (suc n) last l w.0 in
      let rest = lines_are (suc n) (rule_number l) ls k p.0 w.1 in
      (omega (arith, rest.0), (rule_word l p.1, rest.1))

  between : (last : ℕ) (rs : List Rule) → Rises last rs → Words rs → Between last max_word (map (read_rule lim) rs)
  unfolding Rises Words Between read_rule
  between last [] h w = tt
  between last (r ∷ rs) h w = (h.0, w.0, between r.number rs h.1 w.1)

  module _ (book : List ℕ) (n : ℕ) (e : judge lim book ≡ Ok n) where
    lines : (0 + length (book_lines book) ≤ max_rules) × Words (rules_of book)
    unfolding rules_of
    lines = lines_are 0 0 (book_lines book) n (omega arith) (accepted_book lim book n e).1

    pub accepted_between : Between 0 max_word (read_rules lim book)
    unfolding read_rules
    accepted_between = between 0 (rules_of book) (rules_rise lim book n e) lines.1

    pub accepted_few : length (read_rules lim book) ≤ max_rules
    unfolding read_rules rules_of
    accepted_few = omega (arith, lines.0, length-map (rules_of book) (read_rule lim), length-map (book_lines book) rule_of)
