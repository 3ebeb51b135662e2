-- From two loaded books to what is written: the first's refusal, else the second's, else the lines of their rules.
use Rattle.std.specs.Prelude.{Ok, Err}
use mathlib.Core.Path.{◌≡◌, sym, ap, ◌∙◌}
use mathlib.Core.List.{List}
use Prim.Native.Nat.{ℕ}
use Rattle.forms.specs.Bytes.{text}
use Rattle.definitions.specs.declared.answers.Refusal.{Refusal}
use Rattle.definitions.specs.declared.books.LoadedBook.{LoadedBook}
use Rattle.definitions.specs.Limits.{document_limits}
use Rattle.definitions.specs.LoadedBooks.{loaded}
use Rattle.rule_book.proofs.RulesFrom.{judged}
use Rattle.compare_laws.specs.Comparisons.{ReadRule, read_rules, rules_output, refused_output, compare_output}
use Rattle.compare_laws.proofs.Books.{first_refused, second_refused, both_accepted}
use Rattle.compare_rules.specs.LoadedRules.{read_from}
use Rattle.compare_rules.proofs.LoadedRules.{loaded_read}

module _ (first second : List ℕ) {x : LoadedBook} (e : x ≡ loaded document_limits first) where
  pub first_told : (r : Refusal) (line : ℕ) → x.judgement ≡ Err (record { refusal = r; line = line }) → compare_output document_limits first second ≡ refused_output (text "first\t") r line
  first_told r line k = first_refused document_limits first second r line (sym (judged first e) ∙ k)

  module _ (n : ℕ) (k : x.judgement ≡ Ok n) {y : LoadedBook} (f : y ≡ loaded document_limits second) where
    pub second_told : (r : Refusal) (line : ℕ) → y.judgement ≡ Err (record { refusal = r; line = line })
        → compare_output document_limits first second ≡ refused_output (text "second\t") r line
    second_told r line g = second_refused document_limits first second n (sym (judged first e) ∙ k) r line (sym (judged second f) ∙ g)

    pub both_told : (m : ℕ) → y.judgement ≡ Ok m
        → compare_output document_limits first second ≡ rules_output (read_from first x.rules 0) (read_from second y.rules 0)
    both_told m g =
        let p = sym (judged first e) ∙ k in
        let q = sym (judged second f) ∙ g in
        let s = ap (λ (b : LoadedBook). read_from first b.rules 0) e ∙ loaded_read first n p in
        let t = ap (λ (b : LoadedBook). read_from second b.rules 0) f ∙ loaded_read second m q in
        both_accepted document_limits first second n p m q
        ∙ sym (ap (λ (l : List ReadRule). rules_output l (read_from second y.rules 0)) s ∙ ap (rules_output (read_rules document_limits first)) t)
