-- What the line program writes. Section "The line program".
use Rattle.std.specs.Prelude.{ℕ, suc, List, [], ◌∷◌, ◌++◌, eqb, if◌then◌else◌, Result, Ok, Err}
use Rattle.forms.specs.Bytes.{text}
use Rattle.definitions.specs.declared.table.Table.{Table}
use Rattle.definitions.specs.declared.answers.Refusal.{Refusal}
use Rattle.definitions.specs.declared.answers.Reading.{Reading}
use Rattle.definitions.specs.declared.answers.TextRefusal.{TextRefusal}
use Rattle.definitions.specs.Limits.{Limits}
use Rattle.definitions.specs.Refusals.{number_of}
use Rattle.definitions.specs.Reading.{read}
use Rattle.definitions.specs.Canonical.{decimal, canonical_text}
use Rattle.definitions.specs.Writing.{writing_check}

-- refusal, tab, place
abbrev pub refused_line : Refusal → ℕ → List ℕ
refused_line r place = decimal (number_of r) ++ (text "\t" ++ decimal place)

-- `ok`, tab, canonical text; or the writer's refusal at place 0, its buffer being as long as a canonical text may be
abbrev pub canonical_line : Result Unit Refusal → Table → List ℕ
canonical_line (Ok tt) t = text "ok\t" ++ canonical_text t
canonical_line (Err r) t = refused_line r 0

abbrev pub line_by : Limits → Result Unit TextRefusal → Table → List ℕ
line_by lim (Ok tt) t = canonical_line (writing_check lim t lim.canonical) t
line_by lim (Err e) t = refused_line e.refusal e.place

abbrev pub reading_line : Limits → Reading → List ℕ
reading_line lim r = line_by lim r.outcome r.table

-- the answer to a text
unfoldable pub line_of : Limits → List ℕ → List ℕ
line_of lim s = reading_line lim (read lim s)

-- one text a line ended by LF; a last line may lack it. `line` is what was read of the line so far
unfoldable pub line_texts : List ℕ → List ℕ → List (List ℕ)
line_texts [] [] = []
line_texts (b ∷ line) [] = (b ∷ line) ∷ []
line_texts line (b ∷ l) = if eqb b 10 then line ∷ line_texts [] l else line_texts (line ++ (b ∷ [])) l

-- line number, tab, answer, LF, for each text in turn
unfoldable pub lines_from : (List ℕ → List ℕ) → ℕ → List (List ℕ) → List ℕ
lines_from answer n [] = []
lines_from answer n (s ∷ ss) = decimal n ++ (text "\t" ++ (answer s ++ (text "\n" ++ lines_from answer (suc n) ss)))

-- what a program writes that answers each line of its input
unfoldable pub output_over : (List ℕ → List ℕ) → List ℕ → List ℕ
output_over answer input = lines_from answer 1 (line_texts [] input)

-- THE PROGRAM'S OUTPUT
unfoldable pub program_output : Limits → List ℕ → List ℕ
program_output lim input = output_over (line_of lim) input
