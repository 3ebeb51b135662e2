-- WHAT THE PROGRAM `book` WRITES for a book: `ok`, tab, the number of its rules; or its refusal, tab, the line. Then LF.
use Rattle.std.specs.Prelude.{ℕ, List, ◌++◌, Result, Ok, Err}
use Rattle.forms.specs.Bytes.{text}
use Rattle.definitions.specs.Limits.{Limits}
use Rattle.definitions.specs.Canonical.{decimal}
use Rattle.definitions.specs.Lines.{refused_line}
use Rattle.definitions.specs.Books.{judge}
use Rattle.definitions.specs.declared.answers.BookRefusal.{BookRefusal}

unfoldable pub judgement_text : Result ℕ BookRefusal → List ℕ
judgement_text (Ok n) = text "ok\t" ++ decimal n
judgement_text (Err e) = refused_line e.refusal e.line

unfoldable pub book_output : Limits → List ℕ → List ℕ
book_output lim book = judgement_text (judge lim book) ++ text "\n"
