-- THE RULES OF A LOADED BOOK FROM A PLACE ON, as a loop over them goes: the one at the place, and those after it; none past the last. What is read at a rule's
-- place is the reading of its text.
use mathlib.Core.Path.{◌≡◌, refl, ap, ◌∙◌}
use mathlib.Core.Logic.{◌⊎◌, ⊎_elim}
use mathlib.Core.List.{List, [], ◌∷◌, map}
use Prim.Native.Nat.{ℕ, ◌+◌, ◌<◌, ◌≤◌}
use native.Mathlib.Omega.{arith}
use lib.ListN.{length, get_or, take, drop, length-take, drop_of_length-le}
use lib.Seq.{get_or-take}
use Rattle.definitions.specs.declared.answers.Reading.{Reading}
use Rattle.definitions.specs.declared.books.LoadedRule.{LoadedRule}
use Rattle.definitions.specs.declared.books.Rules.{Rules}
use Rattle.definitions.specs.declared.books.LoadedBook.{LoadedBook}
use Rattle.definitions.specs.Limits.{document_limits}
use Rattle.definitions.specs.Reading.{read}
use Rattle.definitions.specs.Books.{Rule, judge}
use Rattle.definitions.specs.LoadedBooks.{rule_at, rules_in, loaded}
use Rattle.list_laws.proofs.Every.{drop_here}
use Rattle.book_laws.proofs.Loaded.{loaded_judgement}

module _ (book : List ℕ) (rs : Rules) where
  abbrev pub rules_from : ℕ → List Rule
  rules_from i = map (rule_at book) (drop i (take rs.count rs.list))

  pub rules_all : rules_in book rs ≡ rules_from 0
  unfolding rules_in
  rules_all = refl

  pub rules_here : (i : ℕ) (d : LoadedRule) → i < rs.count → i < length rs.list → rules_from i ≡ rule_at book (get_or rs.list i d) ∷ rules_from (i + 1)
  rules_here i d h l =
      let n : i < length (take rs.count rs.list) = omega (arith, h, l, length-take rs.count rs.list) in
      ap (map (rule_at book)) (drop_here (take rs.count rs.list) i d n)
      ∙ ap (λ (x : LoadedRule). rule_at book x ∷ rules_from (i + 1)) (get_or-take rs.count rs.list i d h)

  pub rules_out : (i : ℕ) → (rs.count ≤ i) ⊎ (length rs.list ≤ i) → rules_from i ≡ []
  rules_out i h =
      let n : length (take rs.count rs.list) ≤ i =
      ⊎_elim (λ a. omega (arith, a, length-take rs.count rs.list)) (λ b. omega (arith, b, length-take rs.count rs.list)) h in
      ap (map (rule_at book)) (drop_of_length-le (take rs.count rs.list) n)

-- what was read at a rule's place is the reading of its text
pub source_read : (book : List ℕ) (r : LoadedRule) {x : Reading} {s : List ℕ} → x ≡ read document_limits s → s ≡ take r.len (drop r.start book)
    → x ≡ read document_limits (rule_at book r).source
unfolding rule_at
source_read book r e k = e ∙ ap (read document_limits) k

-- a loaded book has the book's judgement
pub judged : (book : List ℕ) {b : LoadedBook} → b ≡ loaded document_limits book → b.judgement ≡ judge document_limits book
judged book e = ap (λ (x : LoadedBook). x.judgement) e ∙ loaded_judgement document_limits book
