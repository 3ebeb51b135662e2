-- By the judgement.
use mathlib.Core.Path.{sym, ap, ◌∙◌}
use Rattle.definitions.specs.declared.books.LoadedBook.{LoadedBook}
use Rattle.definitions.specs.Limits.{document_limits}
use Rattle.book_laws.proofs.Loaded.{loaded_judgement}
use Rattle.write_bytes.proofs.Putting.{told, none_put}
use Rattle.replay_laws.specs.Replays.{refused_output}
use Rattle.replay_lines.specs.Feeding.{is_accepted, opened_text}
use Rattle.replay_lines.proofs.open.Goals as goal

pub returns-in-Err : goal.returns-in-Err
unfolding refused_output
returns-in-Err c =
    let b = c.load-b.ensures in
    let judged = sym (loaded_judgement document_limits _) ∙ sym (ap (λ (x : LoadedBook). x.judgement) b) ∙ c.in-Err.is in
    record {
      rules = ap (λ (x : LoadedBook). x.rules) b;
      accepted = sym (ap is_accepted judged);
      put = told (ap opened_text judged) c.put_refused_book.ensures;
    }

pub returns-in-Ok : goal.returns-in-Ok
returns-in-Ok c =
    let b = c.load-b.ensures in
    let judged = sym (loaded_judgement document_limits _) ∙ sym (ap (λ (x : LoadedBook). x.judgement) b) ∙ c.in-Ok.is in
    record {
      rules = ap (λ (x : LoadedBook). x.rules) b;
      accepted = sym (ap is_accepted judged);
      put = told (ap opened_text judged) none_put;
    }
