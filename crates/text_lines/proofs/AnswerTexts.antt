-- The answer to a text, by what reader and writer answer.
use Rattle.std.specs.Prelude.{Result, Ok, Err, ℕ}
use mathlib.Core.Path.{◌≡◌, sym, ap, ◌∙◌}
use mathlib.Core.Bool.{Bool, true, false, true≢false, false≢true}
use mathlib.Core.List.{List, ◌++◌}
use Prim.Native.Nat.{ℕ, ◌<◌}
use native.Mathlib.Omega.{arith}
use lib.ListN.{length, take}
use borrow.Author.Tests.{lt-ltb}
use Rattle.forms.specs.Bytes.{text}
use Rattle.definitions.specs.declared.table.Table.{Table}
use Rattle.definitions.specs.declared.answers.Refusal.{Refusal}
use Rattle.definitions.specs.declared.answers.Refusal.TheVariants as refusal
use Rattle.definitions.specs.declared.answers.Reading.{Reading}
use Rattle.definitions.specs.declared.answers.TextRefusal.{TextRefusal}
use Rattle.definitions.specs.Limits.{document_limits}
use Rattle.definitions.specs.Reading.{read_placing, read}
use Rattle.definitions.specs.WellFormed.{well_formed}
use Rattle.definitions.specs.Canonical.{canonical_text}
use Rattle.definitions.specs.Writing.{writing_check, written_if, writes}
use Rattle.definitions.specs.Lines.{refused_line, canonical_line, line_of}
use Rattle.roundtrip.proofs.Read.{read_well}
use Rattle.write_bytes.specs.Clipped.{at_most}
use Rattle.write_bytes.specs.Puts.{max_counted, Puts}
use Rattle.writer.proofs.Measured.{taken_back}

-- ---- the writer's answer

abbrev is_written : Result ℕ Refusal → Bool
is_written (Ok n) = true
is_written (Err r) = false

abbrev refusal_of : Result ℕ Refusal → Refusal
refusal_of (Ok n) = refusal.IllFormed
refusal_of (Err r) = r

module _ (t : Table) where
  wrote : (d : Result Unit Refusal) {n : ℕ} {back : List ℕ} → Ok n ≡ written_if d (length (canonical_text t)) → canonical_text t ≡ back
      → canonical_line d t ≡ text "ok\t" ++ back
  wrote (Ok tt) e b = ap (λ (l : List ℕ). text "ok\t" ++ l) b
  wrote (Err r) e b = absurd (true≢false (ap is_written e))

  declined : (d : Result Unit Refusal) (r : Refusal) → Err r ≡ written_if d (length (canonical_text t)) → canonical_line d t ≡ refused_line r 0
  declined (Ok tt) r e = absurd (false≢true (ap is_written e))
  declined (Err r) s e = ap (λ (x : Refusal). refused_line x 0) (sym (ap refusal_of e))

  module _ (out : List ℕ) (h : length out ≡ document_limits.canonical) where
    abbrev check : ℕ → Result Unit Refusal
    check n = writing_check document_limits t n

    -- of a table that was written into room of the limit's length, what can be taken from there
    pub wrote_line : well_formed t ≡ true → {after : List ℕ} → Puts out 0 (canonical_text t) after (at_most (length (canonical_text t)) max_counted) → (n : ℕ)
        → Ok n ≡ writes document_limits t out
        → canonical_line (check document_limits.canonical) t ≡ text "ok\t" ++ take n after
    unfolding writes
    wrote_line w p n e =
        wrote (check document_limits.canonical)
        (e ∙ ap (λ (k : ℕ). written_if (check k) (length (canonical_text t))) h)
        (taken_back t w out h n (sym e) p)

    pub declined_line : (r : Refusal) → Err r ≡ writes document_limits t out → canonical_line (check document_limits.canonical) t ≡ refused_line r 0
    unfolding writes
    declined_line r e = declined (check document_limits.canonical) r (e ∙ ap (λ (k : ℕ). written_if (check k) (length (canonical_text t))) h)

-- ---- the reader's answer

module _ (s : List ℕ) (r : Reading) (e : r ≡ read document_limits s) where
  -- what is read is well formed
  pub read_formed : r.outcome ≡ Ok tt → well_formed r.table ≡ true
  read_formed o = read_well document_limits s r.table (omega arith) (sym e ∙ ap (λ (x : Result Unit TextRefusal). record { outcome = x; table = r.table }) o)

  pub read_line : r.outcome ≡ Ok tt
      → line_of document_limits s ≡ canonical_line (writing_check document_limits r.table document_limits.canonical) r.table
  unfolding line_of
  read_line o = rw (sym e, o)

  pub refused_line_lem : (x : Refusal) (p : ℕ) → r.outcome ≡ Err (record { refusal = x; place = p }) → line_of document_limits s ≡ refused_line x p
  unfolding line_of
  refused_line_lem x p o = rw (sym e, o)

-- ---- over the limit, all texts have one answer

pub too_long_lem : (s : List ℕ) → document_limits.text < length s → line_of document_limits s ≡ refused_line refusal.TextLength 0
unfolding line_of read_placing
too_long_lem s h = rw (lt-ltb document_limits.text (length s) h)
