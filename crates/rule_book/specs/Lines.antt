-- A book line by line, as the code goes through it.
use Rattle.std.specs.Prelude.{ℕ, suc, ◌+◌, List, [], take, Result, Ok, Err}
use Rattle.definitions.specs.declared.answers.Refusal.{Refusal}
use Rattle.definitions.specs.declared.books.LoadedRule.{LoadedRule}
use Rattle.definitions.specs.declared.books.LoadedBook.{LoadedBook}
use Rattle.definitions.specs.Limits.{Limits}
use Rattle.definitions.specs.Parts.{find}
use Rattle.definitions.specs.Books.{line_check}
use Rattle.definitions.specs.LoadedBooks.{loaded_at, loaded_if}

-- the bytes up to the first LF and with it, or all
unfoldable pub first_line : List ℕ → List ℕ
first_line s = take (suc (find 10 s)) s

abbrev pub result_by : Result Unit Refusal → List ℕ → Result LoadedRule Refusal
result_by (Ok tt) l = Ok (loaded_at 0 l)
result_by (Err r) l = Err r

-- a line after n others, the last of the number `last`
unfoldable pub checked_line : Limits → ℕ → ℕ → List ℕ → Result LoadedRule Refusal
checked_line lim n last l = result_by (line_check lim (suc n) last l) l

abbrev pub moved_to : ℕ → LoadedRule → LoadedRule
moved_to at r = record { number = r.number; state = r.state; action = r.action; start = at + r.start; len = r.len }

abbrev pub refused_book : Refusal → ℕ → LoadedBook
refused_book r line = loaded_if (Err (record { refusal = r; line = line })) []
