-- From a loaded book to the book's decision: its refusal, or what its rules decide.
use Rattle.std.specs.Prelude.{Result, Ok, Err}
use mathlib.Core.Path.{◌≡◌, sym, ap, ◌∙◌}
use mathlib.Core.List.{List}
use Prim.Native.Nat.{ℕ}
use Rattle.definitions.specs.declared.packets.Direction.{Direction}
use Rattle.definitions.specs.declared.packets.FieldMap.{FieldMap}
use Rattle.definitions.specs.declared.answers.Refusal.{Refusal}
use Rattle.definitions.specs.declared.books.LoadedBook.{LoadedBook}
use Rattle.definitions.specs.declared.books.Decision.{Decision}
use Rattle.definitions.specs.declared.answers.BookRefusal.{BookRefusal}
use Rattle.definitions.specs.Limits.{document_limits}
use Rattle.definitions.specs.Decisions.{decided, decision}
use Rattle.definitions.specs.LoadedBooks.{rules_in, loaded}
use Rattle.definitions.specs.AnswerNumbers.{decision_numbers, decision_in_numbers}
use Rattle.book_laws.proofs.Loaded.{loaded_rules}
use Rattle.book_laws.proofs.Deciding.{refused_alone, by_rules}
use Rattle.rule_book.proofs.RulesFrom.{judged}

module _ (p decoded : List ℕ) (dir : Direction) (m : FieldMap) (book : List ℕ) where
  -- an answer, and the same in numbers
  pub decision_told : {d : Result Decision BookRefusal} → d ≡ decision document_limits p decoded dir m book
      → (d ≡ decision document_limits p decoded dir m book) × (decision_numbers d ≡ decision_in_numbers document_limits p decoded dir m book)
  decision_told e = (e, ap decision_numbers e)

  module _ {b : LoadedBook} (e : b ≡ loaded document_limits book) where
    pub book_refused : (r : Refusal) (line : ℕ) → b.judgement ≡ Err (record { refusal = r; line = line }) → Err (record { refusal = r; line = line }) ≡ decision document_limits p decoded dir m book
    book_refused r line k = sym (refused_alone document_limits p decoded dir m book r line (sym (judged book e) ∙ k))

    pub book_accepted : (n : ℕ) → b.judgement ≡ Ok n → {d : Result Decision BookRefusal} → d ≡ decided document_limits p decoded dir m (rules_in book b.rules)
        → d ≡ decision document_limits p decoded dir m book
    book_accepted n k f =
        let a = sym (judged book e) ∙ k in
        f
        ∙ ap (λ (x : LoadedBook). decided document_limits p decoded dir m (rules_in book x.rules)) e
        ∙ ap (decided document_limits p decoded dir m) (loaded_rules document_limits book n a)
        ∙ sym (by_rules document_limits p decoded dir m book n a)
