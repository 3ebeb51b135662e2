-- WHAT IS WRITTEN HAS AT MOST 2,048 BYTES (`compare_most`): a line for a rule of one book has at most 10, one for rules of both at most 32, so there are at most
-- 16 for each rule of either book.
use Rattle.std.specs.Prelude.{Result, Ok, Err, ℕ}
use mathlib.Core.Path.{◌≡◌, refl}
use mathlib.Core.Logic.{⊎_elim}
use mathlib.Core.Bool.{Bool, true, false, not}
use mathlib.Core.List.{List, [], ◌∷◌, ◌++◌}
use Prim.Native.Nat.{ℕ, suc, ◌+◌, ◌*◌, ◌≤◌}
use native.Mathlib.Omega.{arith}
use lib.Dec.{ltb}
use lib.ListN.{length, length-append}
use Rattle.forms.specs.Bytes.{text}
use Rattle.forms.proofs.Bools.{by_cases}
use Rattle.definitions.specs.declared.answers.Refusal.{Refusal}
use Rattle.definitions.specs.declared.answers.BookRefusal.{BookRefusal}
use Rattle.definitions.specs.Limits.{Limits, max_word, max_rules}
use Rattle.definitions.specs.Canonical.{decimal}
use Rattle.definitions.specs.Lines.{refused_line}
use Rattle.definitions.specs.Books.{judge}
use Rattle.laws.proofs.Digits.{word_most}
use Rattle.line_refusals.proofs.Lengths.{refused_most}
use Rattle.book_laws.proofs.Causes.{refused_line_lem}
use Rattle.table_equality.specs.SameTables.{same_table}
use Rattle.compare_laws.specs.Comparisons.{ReadRule, read_rules, same_state, same_action, differing, differences, commas, changed_line, both_line, number_line}
use Rattle.compare_laws.specs.Comparisons.{new_lines, merged_by, rules_output, refused_output, output_if, compare_output, new_line, old_line}
use Rattle.compare_laws.proofs.AcceptedRules.{Between, accepted_between, accepted_few}

-- ---- a line

number_most : (word : List ℕ) (n : ℕ) → length word ≤ 4 → n ≤ max_word → length (number_line word n) ≤ 10
number_most word n w h =
    omega (arith, w, length-append word (decimal n ++ text "\n"), length-append (decimal n) (text "\n"), word_most n (omega (arith, h)))

differing_most : (s a t : Bool) → length (commas (differing s a t)) ≤ 17
differing_most true true true = omega arith
differing_most true true false = omega arith
differing_most true false true = omega arith
differing_most true false false = omega arith
differing_most false true true = omega arith
differing_most false true false = omega arith
differing_most false false true = omega arith
differing_most false false false = omega arith

changed_most : (n : ℕ) (ws : List (List ℕ)) → n ≤ max_word → length (commas ws) ≤ 17 → length (changed_line n ws) ≤ 32
changed_most n [] h c = omega arith
changed_most n (w ∷ ws) h c =
    let said = commas (w ∷ ws) in
    omega (
      arith,
      c,
      length-append (text "changed\t") (decimal n ++ (text "\t" ++ (said ++ text "\n"))),
      length-append (decimal n) (text "\t" ++ (said ++ text "\n")),
      length-append said (text "\n"),
      word_most n (omega (arith, h)),
    )

both_most : (a b : ReadRule) → a.number ≤ max_word → length (both_line a b) ≤ 32
unfolding both_line differences
both_most a b h =
    changed_most a.number (differences a b) h
    (differing_most (not (same_state a.state b.state)) (not (same_action a.action b.action)) (not (same_table a.table b.table)))

-- ---- the lines

news_most : (k : ℕ) (ys : List ReadRule) → Between k max_word ys → length (new_lines ys) ≤ 16 * length ys
unfolding new_lines Between
news_most k [] g = omega arith
news_most k (b ∷ ys) g =
    omega (arith, length-append (new_line b) (new_lines ys), number_most (text "new\t") b.number (omega arith) g.1, news_most b.number ys g.2)

merged_most : (a : ReadRule) (rest : List ReadRule → List ℕ) (n k : ℕ) (ys : List ReadRule) → a.number ≤ max_word → Between k max_word ys
    → ((j : ℕ) (zs : List ReadRule) → Between j max_word zs → length (rest zs) ≤ 16 * (n + length zs)) → length (merged_by a rest ys) ≤ 16 * (suc n + length ys)
unfolding merged_by Between
merged_most a rest n k [] h g r =
    omega (arith, length-append (old_line a) (rest []), number_most (text "old\t") a.number (omega arith) h, r k [] tt)
merged_most a rest n k (b ∷ ys) h g r =
    by_cases (ltb a.number b.number)
    (λ t. rw t (omega (arith, length-append (old_line a) (rest (b ∷ ys)), number_most (text "old\t") a.number (omega arith) h, r k (b ∷ ys) g)))
    (λ f. rw f (by_cases (ltb b.number a.number)
    (λ t.
    rw t
    (omega (
      arith,
      length-append (new_line b) (merged_by a rest ys),
      number_most (text "new\t") b.number (omega arith) g.1,
      merged_most a rest n b.number ys h g.2 r,
    )))
    (λ v. rw v (omega (arith, length-append (both_line a b) (rest ys), both_most a b h, r b.number ys g.2)))))

rules_most : (k j : ℕ) (xs ys : List ReadRule) → Between k max_word xs → Between j max_word ys → length (rules_output xs ys) ≤ 16 * (length xs + length ys)
unfolding rules_output Between
rules_most k j [] ys h g = omega (arith, news_most j ys g)
rules_most k j (a ∷ xs) ys h g = merged_most a (rules_output xs) (length xs) j ys h.1 g (λ i zs b. rules_most a.number i xs zs h.2 b)

-- ---- the whole

refused_short : (lim : Limits) (book which : List ℕ) (r : Refusal) (line : ℕ) → length which ≤ 7 → judge lim book ≡ Err (record { refusal = r; line = line })
    → length (refused_output which r line) ≤ 2048
unfolding refused_output
refused_short lim book which r line w e =
    let short : line ≤ suc max_rules = ⊎_elim (λ p. omega (arith, p.1)) (λ p. p.2) (refused_line_lem lim book r line e) in
    let said = refused_line r line in
    omega (arith, w, length-append which (said ++ text "\n"), length-append said (text "\n"), refused_most r line (omega (arith, short)))

pub compare_most : (lim : Limits) (first second : List ℕ) → length (compare_output lim first second) ≤ 2048
unfolding compare_output
compare_most lim first second = go (judge lim first) (judge lim second) refl refl
  where
    go : (j k : Result ℕ BookRefusal) → judge lim first ≡ j → judge lim second ≡ k
        → length (output_if j k (read_rules lim first) (read_rules lim second)) ≤ 2048
    go (Err e') k e f = refused_short lim first (text "first\t") e'.refusal e'.line (omega arith) e
    go (Ok n) (Err e') e f = refused_short lim second (text "second\t") e'.refusal e'.line (omega arith) f
    go (Ok n) (Ok m) e f =
        omega (
          arith,
          rules_most 0 0 (read_rules lim first) (read_rules lim second) (accepted_between lim first n e) (accepted_between lim second m f),
          accepted_few lim first n e,
          accepted_few lim second m f,
        )
