-- An answer with its number has at most 25 bytes more than a canonical text may have, so that a feed into the program's 65,536 always takes some of its input.
use Rattle.std.specs.Prelude.{Result, Ok, Err}
use mathlib.Core.Path.{◌≡◌, refl, ap}
use mathlib.Core.Bool.{Bool, true, false, not, false≢true}
use mathlib.Core.List.{List, ◌∷◌, ◌++◌}
use Prim.Native.Nat.{ℕ, ◌+◌, ◌≤◌, ◌<◌}
use native.Mathlib.Omega.{arith}
use lib.Dec.{ltb}
use lib.ListN.{length, length-append}
use borrow.Author.Tests.{ltb-false}
use Rattle.forms.specs.Bytes.{text}
use Rattle.forms.proofs.Bools.{by_cases}
use Rattle.definitions.specs.declared.table.Table.{Table}
use Rattle.definitions.specs.Limits.{document_limits}
use Rattle.definitions.specs.Refusals.{read_place}
use Rattle.definitions.specs.Reading.{read}
use Rattle.definitions.specs.Canonical.{decimal, canonical_text}
use Rattle.definitions.specs.WellFormed.{well_formed}
use Rattle.definitions.specs.Writing.{writing_check}
use Rattle.definitions.specs.Lines.{canonical_line, line_by, line_of}
use Rattle.laws.proofs.Places.{place_most}
use Rattle.laws.proofs.Digits.{decimal_most}
use Rattle.line_refusals.proofs.Lengths.{refused_most}
use Rattle.line_stream.specs.declared.Begun.{Begun}
use Rattle.line_stream.specs.declared.Fed.{Fed}
use Rattle.definitions.specs.declared.answers.Refusal.{Refusal}
use Rattle.definitions.specs.declared.answers.TextRefusal.{TextRefusal}
use Rattle.line_stream.specs.Stream.{max_line_number, line_answer, Feeds}
use Rattle.line_stream.proofs.Running.{goes_on_lem}

-- ---- the answer to a text

abbrev is_fine : Result Unit Refusal → Bool
is_fine (Ok tt) = true
is_fine (Err r) = false

-- how long a canonical text may be
abbrev most : ℕ
most = document_limits.canonical

-- a canonical text that is written is not beyond the limit
fine_short : (t : Table) → writing_check document_limits t most ≡ Ok tt → length (canonical_text t) ≤ most
unfolding writing_check
fine_short t e =
    by_cases (ltb most (length (canonical_text t)))
    (λ l.
    by_cases (not (well_formed t))
    (λ n. absurd (false≢true (ap is_fine (rw n at e))))
    (λ w. absurd (false≢true (ap is_fine (rw (w, l) at e)))))
    (λ f. ltb-false most (length (canonical_text t)) f)

canonical_most : (t : Table) (d : Result Unit Refusal) → (d ≡ Ok tt → length (canonical_text t) ≤ most) → length (canonical_line d t) ≤ 3 + most
canonical_most t (Ok tt) h = omega (arith, length-append (text "ok\t") (canonical_text t), h refl)
canonical_most t (Err r) h = omega (arith, refused_most r 0 (omega arith))

outcome_most : (o : Result Unit TextRefusal) (t : Table) → read_place o ≤ document_limits.text → length (line_by document_limits o t) ≤ 3 + most
outcome_most (Ok tt) t h = canonical_most t (writing_check document_limits t most) (fine_short t)
outcome_most (Err e) t h = omega (arith, refused_most e.refusal e.place (omega (arith, h)))

line_most : (s : List ℕ) → length (line_of document_limits s) ≤ 3 + most
unfolding line_of
line_most s = outcome_most (read document_limits s).outcome (read document_limits s).table (place_most document_limits s)

-- ---- with its number, and in a feed

-- a line number of 20 digits, tab, `ok`, tab, canonical text, LF
abbrev pub max_answer : ℕ
max_answer = 25 + most

pub answer_most : (n : ℕ) (s : List ℕ) → n ≤ max_line_number → length (line_answer (line_of document_limits) n s) ≤ max_answer
answer_most n s h =
    let tail = line_of document_limits s ++ text "\n" in
    omega (arith, length-append (decimal n) (9 ∷ tail), length-append (line_of document_limits s) (text "\n"), decimal_most n (omega (arith, h)), line_most s)

pub always_takes : {input line out line' out' : List ℕ} {b : Begun} {r : Fed} → max_answer ≤ length out → b.number ≤ max_line_number → 0 < length input
    → Feeds (line_of document_limits) input line out b line' out' r → 0 < r.taken
always_takes room counts some f = goes_on_lem (line_of document_limits) max_answer answer_most room (omega arith) counts some f
