-- The loop of loading (`Loading`): the book's lines up to a place are judged good and their rules stand in the list, and the loaded book is what these come to with
-- the lines that are left. It begins with no line (`loading_in`); a line that passes goes over to the list (`loading-on`); one that is refused (`loading-not`), or
-- the book's end (`loading_out`), decides.
use Rattle.std.specs.Prelude.{Result, Ok, Err}
use mathlib.Core.Path.{◌≡◌, refl, sym, ap, ◌∙◌}
use mathlib.Core.Bool.{true, false, false≢true}
use mathlib.Core.List.{List, [], ◌∷◌, ◌++◌, append-nil}
use Prim.Native.Nat.{ℕ, zero, suc, ◌+◌, ◌<◌, ◌≤◌}
use native.Mathlib.Omega.{arith}
use lib.ListN.{length, take, drop, set, replicate, length-take, length-drop, drop_of_length-le}
use lib.Seq.{drop-drop, take_all, take-suc-set, append_snoc}
use lib.Dec.{ltb}
use borrow.Author.Tests.{lt-ltb, le-ltb, ltb-false}
use Rattle.definitions.specs.declared.answers.Refusal.{Refusal}
use Rattle.definitions.specs.declared.answers.Refusal.TheVariants as refusal
use Rattle.definitions.specs.declared.books.LoadedRule.{LoadedRule}
use Rattle.definitions.specs.declared.books.LoadedBook.{LoadedBook}
use Rattle.definitions.specs.Limits.{document_limits, max_book, max_rules}
use Rattle.definitions.specs.Lists.{padded}
use Rattle.definitions.specs.Parts.{find}
use Rattle.definitions.specs.Books.{book_lines, rule_number, rule_of, line_check, judge_lines, judge}
use Rattle.definitions.specs.LoadedBooks.{source_start, loaded_at, loaded_from, unused_rule, loaded_if, loaded}
use Rattle.list_laws.proofs.Padded.{padded_one, padded_full}
use Rattle.laws.proofs.Checks.{refuse_fine}
use Rattle.book_laws.proofs.Lines.{lines_first}
use Rattle.book_laws.proofs.Sources.{start_within}
use Rattle.rule_book.specs.Lines.{first_line, result_by, checked_line, moved_to, refused_book}

-- ---- the first line of what is left

drop_taken : (k : ℕ) (s : List ℕ) → drop (length (take k s)) s ≡ drop k s
drop_taken zero s = refl
drop_taken (suc k) [] = refl
drop_taken (suc k) (b ∷ s) = drop_taken k s

line_and_rest : (s : List ℕ) → 0 < length s → book_lines s ≡ first_line s ∷ book_lines (drop (length (first_line s)) s)
unfolding first_line
line_and_rest [] h = absurd (omega (arith, h))
line_and_rest (b ∷ s) h =
    lines_first b s
    ∙ ap (λ (r : List ℕ). take (suc (find 10 (b ∷ s))) (b ∷ s) ∷ book_lines r) (sym (drop_taken (suc (find 10 (b ∷ s))) (b ∷ s)))

-- as the code finds it
pub line_is : (s : List ℕ) {n : ℕ} → n ≡ suc (find 10 s) → take n s ≡ first_line s
unfolding first_line
line_is s e = ap (λ (k : ℕ). take k s) e

pub line_all : (s : List ℕ) → length s ≤ find 10 s → s ≡ first_line s
unfolding first_line
line_all s h = sym (take_all (suc (find 10 s)) s (omega (arith, h)))

pub line_some : (s : List ℕ) → 0 < length s → 0 < length (first_line s)
unfolding first_line
line_some [] h = h
line_some (b ∷ s) h = omega arith

pub line_le : (s : List ℕ) → length (first_line s) ≤ length s
unfolding first_line
line_le s = omega (arith, length-take (suc (find 10 s)) s)

-- ---- what a line's answer tells

result_refused : (d : Result Unit Refusal) (l : List ℕ) (r : Refusal) → result_by d l ≡ Err r → d ≡ Err r
result_refused (Ok tt) l r e = let z : false ≡ true = cc in absurd (false≢true z)
result_refused (Err c) l r e = cc

result_passed : (d : Result Unit Refusal) (l : List ℕ) (r : LoadedRule) → result_by d l ≡ Ok r → (d ≡ Ok tt) × (r ≡ loaded_at 0 l)
result_passed (Ok tt) l r e = (refl, cc)
result_passed (Err c) l r e = let z : false ≡ true = cc in absurd (false≢true z)

moved : (at : ℕ) (l : List ℕ) → moved_to at (loaded_at 0 l) ≡ loaded_at at l
unfolding loaded_at
moved at l = let z : at + (0 + source_start l) ≡ at + source_start l = omega arith in rw z

-- ---- the loop

-- what the lines left of a book come to, after n good ones with the rules rs
unfoldable pub loaded_on : ℕ → ℕ → ℕ → List LoadedRule → List ℕ → LoadedBook
loaded_on n last at rs s = loaded_if (judge_lines document_limits n last (book_lines s)) (rs ++ loaded_from at (book_lines s))

pub record Loading (book : List ℕ) (list : List LoadedRule) (n last at : ℕ) : Type 0 where
  pub short : length book ≤ max_book
  pub within : at ≤ length book
  pub few : n ≤ max_rules
  pub room : list ≡ padded max_rules unused_rule (take n list)
  pub answer : loaded document_limits book ≡ loaded_on n last at (take n list) (drop at book)

pub too_long_lem : (book : List ℕ) → max_book < length book → {x : LoadedBook} → x ≡ refused_book refusal.BookLength 0 → x ≡ loaded document_limits book
unfolding loaded judge
too_long_lem book h e = rw (lt-ltb max_book (length book) h) e

pub loading_in : (book : List ℕ) (list : List LoadedRule) → length book ≤ max_book → list ≡ replicate max_rules unused_rule → Loading book list 0 0 0
unfolding loaded judge loaded_on
loading_in book list h e =
    record {
      short = h;
      within = omega arith;
      few = omega arith;
      room = e;
      answer = rw (le-ltb max_book (length book) h);
    }

module _ {book : List ℕ} {list : List LoadedRule} {n last at : ℕ} (w : Loading book list n last at) where
  full : length list ≡ max_rules
  full = ap length w.room ∙ padded_full max_rules unused_rule (take n list) (omega (arith, length-take n list, w.few))

  in_use : length (take n list) ≡ n
  in_use = omega (arith, length-take n list, full, w.few)

  pub loading_out : length book ≤ at → {x : List LoadedRule} → x ≡ list
      → record { judgement = Ok n; rules = record { count = n; list = x } } ≡ loaded document_limits book
  unfolding loaded_on judge_lines book_lines loaded_from
  loading_out h e =
      sym
      (w.answer ∙ rw (drop_of_length-le book {i = at} h, append-nil (take n list), sym w.room, in_use, e))

  module _ (more : at < length book) (l : List ℕ) (e : l ≡ first_line (drop at book)) where
    left : 0 < length (drop at book)
    left = omega (arith, length-drop at book, more)

    pub step_within : at + length l ≤ length book
    step_within = omega (arith, ap length e, line_le (drop at book), length-drop at book, more)

    pub step_on : at < at + length l
    step_on = omega (arith, ap length e, line_some (drop at book) left)

    lines_are : book_lines (drop at book) ≡ l ∷ book_lines (drop (at + length l) book)
    lines_are =
        line_and_rest (drop at book) left
        ∙ ap (λ (k : List ℕ). k ∷ book_lines (drop (length k) (drop at book))) (sym e)
        ∙ ap (λ (s : List ℕ). l ∷ book_lines s) (drop-drop (length l) at book)

    module _ {x : Result LoadedRule Refusal} (f : x ≡ checked_line document_limits n last l) where
      pub loading-not : (r : Refusal) → x ≡ Err r → {y : LoadedBook} → y ≡ refused_book r (n + 1) → y ≡ loaded document_limits book
      unfolding loaded_on judge_lines checked_line
      loading-not r k g =
          let d = result_refused (line_check document_limits (suc n) last l) l r (sym f ∙ k) in
          let z : n + 1 ≡ suc n = omega arith in
          g ∙ sym (w.answer ∙ rw (lines_are, d, z))

      module _ (r : LoadedRule) (k : x ≡ Ok r) where
        passed : (line_check document_limits (suc n) last l ≡ Ok tt) × (r ≡ loaded_at 0 l)
        unfolding checked_line
        passed = result_passed (line_check document_limits (suc n) last l) l r (sym f ∙ k)

        pub line_few : n < max_rules
        unfolding line_check
        line_few = omega (arith, ltb-false max_rules (suc n) (refuse_fine (ltb max_rules (suc n)) refusal.RuleCount _ passed.0).0)

        pub start-short : at + r.start ≤ max_book
        unfolding loaded_at
        start-short = rw passed.1 (omega (arith, start_within l, step_within, w.short))

        number-kept : r.number ≡ rule_number l
        unfolding loaded_at rule_of
        number-kept = rw passed.1

        pub loading-on : (y : LoadedRule) → y ≡ moved_to at r → Loading book (set list n y) (n + 1) r.number (at + length l)
        unfolding loaded_on judge_lines loaded_from
        loading-on y g =
            let u : y ≡ loaded_at at l = g ∙ ap (moved_to at) passed.1 ∙ moved at l in
            let z : n + 1 ≡ suc n = omega arith in
            let taken : take (n + 1) (set list n y) ≡ take n list ++ (y ∷ []) =
            ap (λ (i : ℕ). take i (set list n y)) z ∙ take-suc-set list n y (omega (arith, in_use, length-take n list, line_few, full)) in
            let roomy : padded max_rules unused_rule (take n list ++ (y ∷ [])) ≡ set list n y =
            padded_one max_rules unused_rule (take n list) y (omega (arith, in_use, line_few))
            ∙ ap (λ (i : ℕ). set (padded max_rules unused_rule (take n list)) i y) in_use
            ∙ ap (λ (k : List LoadedRule). set k n y) (sym w.room) in
            record {
              short = w.short;
              within = step_within;
              few = omega (arith, line_few);
              room = sym (ap (padded max_rules unused_rule) taken ∙ roomy);
              answer =
                  w.answer
                  ∙ rw (lines_are, passed.0, taken, number-kept, sym u, z)
                  (ap (loaded_if (judge_lines document_limits (suc n) (rule_number l) (book_lines (drop (at + length l) book))))
                  (sym (append_snoc (take n list) y (loaded_from (at + length l) (book_lines (drop (at + length l) book))))));
            }
