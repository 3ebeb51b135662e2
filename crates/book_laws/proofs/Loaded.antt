-- WHAT A LOADED BOOK SAYS IS WHAT THE BOOK SAYS: the rules of an accepted book are those of its lines (`loaded_rules`), and a refused one has none
-- (`refused_rules`). Each text is found again where its line stands, since the lines one after the other are the book.
use Rattle.std.specs.Prelude.{Result, Ok, Err, ℕ}
use mathlib.Core.Path.{◌≡◌, refl, sym, ap, ◌∙◌}
use mathlib.Core.List.{List, [], ◌∷◌, ◌++◌, map, append_assoc}
use Prim.Native.Nat.{ℕ, ◌+◌, ◌-◌, ◌≤◌}
use native.Mathlib.Omega.{arith}
use lib.ListN.{length, take, drop, length-append, length-drop, replicate}
use lib.Seq.{take-append-le, drop-append-le, drop-append-add, take-append_seam}
use Rattle.definitions.specs.declared.answers.Refusal.{Refusal}
use Rattle.definitions.specs.declared.books.LoadedRule.{LoadedRule}
use Rattle.definitions.specs.declared.answers.BookRefusal.{BookRefusal}
use Rattle.definitions.specs.Limits.{Limits, max_rules}
use Rattle.definitions.specs.Books.{book_lines, rule_source, rule_of, rules_of, judge}
use Rattle.definitions.specs.LoadedBooks.{rule_at, rules_in, source_start, loaded_at, loaded_from, unused_rule, rules_with, loaded_if, loaded}
use Rattle.book_laws.proofs.Lines.{joined, lines_joined}
use Rattle.book_laws.proofs.Sources.{start_within, source_within, source_at}

-- a line after some bytes of the book, and before others: its text is found by its place
text_found : (before l after : List ℕ) → take (length (rule_source l)) (drop (length before + source_start l) (before ++ (l ++ after))) ≡ rule_source l
text_found before l after =
    let d : drop (length before + source_start l) (before ++ (l ++ after)) ≡ drop (source_start l) l ++ after =
    drop-append-add before (l ++ after) (source_start l) ∙ drop-append-le (source_start l) l after (start_within l) in
    let n : length (rule_source l) ≤ length (drop (source_start l) l) = omega (arith, length-drop (source_start l) l, source_within l, start_within l) in
    ap (take (length (rule_source l))) d ∙ take-append-le (length (rule_source l)) (drop (source_start l) l) after n ∙ source_at l

rule_found : (before l after : List ℕ) → rule_at (before ++ (l ++ after)) (loaded_at (length before) l) ≡ rule_of l
unfolding rule_at loaded_at rule_of
rule_found before l after = rw (text_found before l after)

-- lines after some bytes of the book
rules_found : (before : List ℕ) (ls : List (List ℕ)) → map (rule_at (before ++ joined ls)) (loaded_from (length before) ls) ≡ map rule_of ls
unfolding joined loaded_from
rules_found before [] = refl
rules_found before (l ∷ ls) =
    let e : before ++ (l ++ joined ls) ≡ (before ++ l) ++ joined ls = sym (append_assoc before l (joined ls)) in
    let n : length before + length l ≡ length (before ++ l) = sym (length-append before l) in
    let rest : map (rule_at (before ++ (l ++ joined ls))) (loaded_from (length before + length l) ls) ≡ map rule_of ls =
    rw (e, n) (rules_found (before ++ l) ls) in
    rw (rule_found before l (joined ls), rest)

-- of an array with room after the rules
in_use : (book : List ℕ) (rs : List LoadedRule) → rules_in book (rules_with rs) ≡ map (rule_at book) rs
unfolding rules_in
in_use book rs = ap (map (rule_at book)) (take-append_seam rs (replicate (max_rules - length rs) unused_rule))

module _ (lim : Limits) (book : List ℕ) where
  pub loaded_rules : (n : ℕ) → judge lim book ≡ Ok n → rules_in book (loaded lim book).rules ≡ rules_of book
  unfolding loaded rules_of
  loaded_rules n e =
      rw e (in_use book (loaded_from 0 (book_lines book))
      ∙ ap (λ (s : List ℕ). map (rule_at s) (loaded_from 0 (book_lines book))) (sym (lines_joined book))
      ∙ rules_found [] (book_lines book))

  pub refused_rules : (r : Refusal) (line : ℕ) → judge lim book ≡ Err (record { refusal = r; line = line }) → rules_in book (loaded lim book).rules ≡ []
  unfolding loaded
  refused_rules r line e = rw e (in_use book [])

  -- the judgement is kept
  pub loaded_judgement : (loaded lim book).judgement ≡ judge lim book
  unfolding loaded
  loaded_judgement = judgement-kept (judge lim book)
    where
      judgement-kept : (j : Result ℕ BookRefusal) → (loaded_if j (loaded_from 0 (book_lines book))).judgement ≡ j
      judgement-kept (Ok n) = refl
      judgement-kept (Err e) = refl
