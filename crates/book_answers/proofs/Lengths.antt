-- A book has at most 64 rules and is refused at line 65 at the latest, so its answer has at most 42 bytes.
use Rattle.std.specs.Prelude.{Result, Ok, Err, ℕ}
use mathlib.Core.Path.{◌≡◌, refl, ap, ◌∙◌}
use mathlib.Core.Bool.{Bool, true, false, false≢true}
use mathlib.Core.List.{List, [], ◌∷◌}
use Prim.Native.Nat.{ℕ, suc, ◌+◌, ◌≤◌}
use native.Mathlib.Omega.{arith}
use lib.Dec.{ltb}
use lib.ListN.{length, length-append}
use borrow.Author.Tests.{ltb-false}
use Rattle.forms.specs.Bytes.{text}
use Rattle.forms.proofs.Bools.{by_cases}
use Rattle.definitions.specs.Limits.{Limits, max_book, max_rules}
use Rattle.definitions.specs.Canonical.{decimal}
use Rattle.definitions.specs.Books.{book_lines, rule_number, line_check, unless_line, judge_lines, judge}
use Rattle.laws.proofs.Digits.{decimal_most}
use Rattle.write_bytes.specs.Puts.{max_counted, Puts}
use Rattle.write_bytes.proofs.Whole.{most_of, puts_count}
use Rattle.line_refusals.proofs.Lengths.{refused_most}
use Rattle.book_answers.specs.BookAnswers.{judgement_text, book_output}
use Rattle.definitions.specs.declared.answers.BookRefusal.{BookRefusal}
use Rattle.definitions.specs.declared.answers.Refusal.{Refusal}

-- rules, or the line
abbrev number_in : Result ℕ BookRefusal → ℕ
number_in (Ok n) = n
number_in (Err e) = e.line

abbrev passes : Result Unit Refusal → Bool
passes (Ok tt) = true
passes (Err r) = false

unless_most : (d : Result Unit Refusal) (n : ℕ) (j : Result ℕ BookRefusal) → n ≤ 65 → (d ≡ Ok tt → number_in j ≤ 65) → number_in (unless_line d n j) ≤ 65
unless_most (Ok tt) n j h g = g refl
unless_most (Err r) n j h g = h

module _ (lim : Limits) where
  -- a line that passes is none after the last rule
  passed_few : (n last : ℕ) (l : List ℕ) → line_check lim n last l ≡ Ok tt → n ≤ max_rules
  unfolding line_check
  passed_few n last l e = by_cases (ltb max_rules n) (λ t. absurd (false≢true (ap passes (rw t at e)))) (λ f. ltb-false max_rules n f)

  lines_most : (n last : ℕ) (ls : List (List ℕ)) → n ≤ max_rules → number_in (judge_lines lim n last ls) ≤ 65
  unfolding judge_lines
  lines_most n last [] h = omega (arith, h)
  lines_most n last (l ∷ ls) h =
      unless_most (line_check lim (suc n) last l) (suc n) (judge_lines lim (suc n) (rule_number l) ls) (omega (arith, h))
      (λ e. lines_most (suc n) (rule_number l) ls (passed_few (suc n) last l e))

  judged_most : (book : List ℕ) → number_in (judge lim book) ≤ 65
  unfolding judge
  judged_most book = by_cases (ltb max_book (length book)) (λ t. rw t (omega arith)) (λ f. rw f (lines_most 0 0 (book_lines book) (omega arith)))

text_most : (j : Result ℕ BookRefusal) → number_in j ≤ 65 → length (judgement_text j) ≤ 41
unfolding judgement_text
text_most (Ok n) h = omega (arith, length-append (text "ok\t") (decimal n), decimal_most n (omega (arith, h)))
text_most (Err e) h = refused_most e.refusal _ (omega (arith, h))

pub answer_most : (lim : Limits) (book : List ℕ) → length (book_output lim book) ≤ 42
unfolding book_output
answer_most lim book =
    omega (arith, length-append (judgement_text (judge lim book)) (text "\n"), text_most (judge lim book) (judged_most lim book))

-- put from the start of a buffer
pub answer_within : (lim : Limits) (book : List ℕ) {out after : List ℕ} {n : ℕ} → Puts out 0 (book_output lim book) after n → n ≤ 42
answer_within lim book {out = out} {n = n} p =
    let l = book_output lim book in
    let counted : n ≡ 0 + length l =
    ap (λ (x : List ℕ × ℕ). x.1) p.is
    ∙ puts_count out 0 l (omega arith)
    ∙ most_of (0 + length l) max_counted (omega (arith, answer_most lim book)) in
    omega (arith, counted, answer_most lim book)
