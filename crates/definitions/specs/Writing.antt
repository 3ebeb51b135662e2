-- Writing a table into a lent buffer. Section "Numbers of refusal", 20 to 22; after writing, bytes after the text are untouched.
use Rattle.std.specs.Prelude.{ℕ, not, List, ◌++◌, length, drop, ltb, Result, Ok, Err}
use Rattle.definitions.specs.declared.table.Table.{Table}
use Rattle.definitions.specs.declared.answers.Refusal.TheVariants as refusal
use Rattle.definitions.specs.declared.answers.Refusal.{Refusal}
use Rattle.definitions.specs.Limits.{Limits}
use Rattle.definitions.specs.Refusals.{refuse_if}
use Rattle.definitions.specs.WellFormed.{well_formed}
use Rattle.definitions.specs.Canonical.{canonical_text}

-- 20, 21, 22, in this order, for a buffer of n bytes
unfoldable pub writing_check : Limits → Table → ℕ → Result Unit Refusal
writing_check lim t n =
    refuse_if (not (well_formed t)) refusal.IllFormed
    (refuse_if (ltb lim.canonical (length (canonical_text t))) refusal.CanonicalLength
    (refuse_if (ltb n (length (canonical_text t))) refusal.ShortBuffer (Ok tt)))

abbrev pub written_if : Result Unit Refusal → ℕ → Result ℕ Refusal
written_if (Ok tt) n = Ok n
written_if (Err r) n = Err r

-- no output written where it is refused
abbrev pub buffer_if : Result Unit Refusal → List ℕ → List ℕ → List ℕ
buffer_if (Ok tt) canonical out = canonical ++ drop (length canonical) out
buffer_if (Err r) canonical out = out

-- the answer, and the buffer afterwards
unfoldable pub writes : Limits → Table → List ℕ → Result ℕ Refusal
writes lim t out = written_if (writing_check lim t (length out)) (length (canonical_text t))

unfoldable pub buffer_after : Limits → Table → List ℕ → List ℕ
buffer_after lim t out = buffer_if (writing_check lim t (length out)) (canonical_text t) out
