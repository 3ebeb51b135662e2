-- The judgement of the loaded book.
use mathlib.Core.Path.{ap, ◌∙◌}
use Rattle.definitions.specs.declared.books.LoadedBook.{LoadedBook}
use Rattle.definitions.specs.Limits.{document_limits}
use Rattle.definitions.specs.AnswerNumbers.{judgement_numbers}
use Rattle.book_laws.proofs.Loaded.{loaded_judgement}
use Rattle.rule_book.proofs.judge.Goals as goal

pub returns : goal.returns
returns c =
    let book = c.args.book.now in
    let e = ap (λ (b : LoadedBook). b.judgement) c.load.ensures ∙ loaded_judgement document_limits book in
    record {
      answer = e;
      numbers = ap judgement_numbers e;
    }
