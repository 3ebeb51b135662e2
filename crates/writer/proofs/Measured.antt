-- What is due for a writing, by what was measured, and what then stands in the buffer.
use Rattle.std.specs.Prelude.{Result, Ok, Err}
use mathlib.Core.Path.{◌≡◌, sym, ap, subst, ◌∙◌}
use mathlib.Core.Bool.{true, false}
use mathlib.Core.List.{List, ◌++◌}
use Prim.Native.Nat.{ℕ, ◌+◌, ◌≤◌, ◌<◌}
use native.Mathlib.Omega.{arith}
use native.Mathlib.Nat.{zero-add, le_of_lt}
use lib.Dec.{leb, ltb}
use lib.ListN.{length, take, drop}
use borrow.Author.Tests.{lt-ltb, le-ltb, ltb-true, ltb-false, leb-true, leb-false}
use Rattle.forms.proofs.Bools.{by_cases}
use Rattle.forms.proofs.Sound.{never}
use Rattle.definitions.specs.declared.table.Table.{Table}
use Rattle.definitions.specs.declared.answers.Refusal.{Refusal}
use Rattle.definitions.specs.declared.answers.Refusal.TheVariants as refusal
use Rattle.definitions.specs.Limits.{document_limits}
use Rattle.definitions.specs.WellFormed.{well_formed}
use Rattle.definitions.specs.Canonical.{canonical_text}
use Rattle.definitions.specs.Writing.{writing_check, written_if, buffer_if, writes, buffer_after}
use Rattle.roundtrip.proofs.Buffer.{canonical_written}
use Rattle.write_bytes.specs.Puts.{max_counted, Puts}
use Rattle.write_bytes.specs.Clipped.{at_most}
use Rattle.write_bytes.proofs.Whole.{most_of, most_full, puts_count, puts_buffer, placed_whole}

-- what is counted of a canonical text: its length, or the most that is counted
abbrev measure : Table → ℕ
measure t = at_most (length (canonical_text t)) max_counted

abbrev Measures : Table → ℕ → Type 0
Measures t n = n ≡ measure t

-- put from the start on, a canonical text is counted, whatever the buffer holds
measures : (t : Table) {out after : List ℕ} {n : ℕ} → Puts out 0 (canonical_text t) after n → Measures t n
measures t {out = out} p =
    ap (λ (q : List ℕ × ℕ). q.1) p.is
    ∙ puts_count out 0 (canonical_text t) (omega arith)
    ∙ ap (λ (k : ℕ). at_most k max_counted) (zero-add (length (canonical_text t)))

module _ (t : Table) where
  abbrev len : ℕ
  len = length (canonical_text t)

  -- what was counted is the length, unless it is too much by far
  measured_long : (r : ℕ) → Measures t r → document_limits.canonical < r → document_limits.canonical < len
  measured_long r e h =
      by_cases (leb len max_counted)
      (λ s. omega (arith, e ∙ most_of len max_counted (leb-true len max_counted s), h))
      (λ f. omega (arith, leb-false len max_counted f))

  measured_is : (r : ℕ) → Measures t r → r ≤ document_limits.canonical → r ≡ len
  measured_is r e h =
      by_cases (leb len max_counted)
      (λ s. e ∙ most_of len max_counted (leb-true len max_counted s))
      (λ f. absurd (let z : ⊥ = omega (arith, e ∙ most_full len max_counted (le_of_lt (leb-false len max_counted f)), h) in z))

  module _ (out : List ℕ) where
    -- the answer and the buffer, by what is due
    abbrev Answers : Result Unit Refusal → Type 0
    Answers d = (written_if d len ≡ writes document_limits t out) × (buffer_if d (canonical_text t) out ≡ buffer_after document_limits t out)

    answers : (d : Result Unit Refusal) → writing_check document_limits t (length out) ≡ d → Answers d
    unfolding writes buffer_after
    answers d e = (ap (λ (x : Result Unit Refusal). written_if x len) (sym e), ap (λ (x : Result Unit Refusal). buffer_if x (canonical_text t) out) (sym e))

    pub ill_formed_lem : well_formed t ≡ false → Answers (Err refusal.IllFormed)
    unfolding writing_check
    ill_formed_lem f = answers (Err refusal.IllFormed) (rw f)

    module _ (w : well_formed t ≡ true) where
      too_long : document_limits.canonical < len → Answers (Err refusal.CanonicalLength)
      unfolding writing_check
      too_long h = answers (Err refusal.CanonicalLength) (rw (w, lt-ltb document_limits.canonical len h))

      module _ (fits : len ≤ document_limits.canonical) where
        short-buffer : length out < len → Answers (Err refusal.ShortBuffer)
        unfolding writing_check
        short-buffer g = answers (Err refusal.ShortBuffer) (rw (w, le-ltb document_limits.canonical len fits, lt-ltb (length out) len g))

        fine : len ≤ length out → Answers (Ok tt)
        fine room =
            let w = canonical_written document_limits t out w fits room in
            (sym w.0, sym w.1)

  -- ---- room of the limit's length

  module _ (w : well_formed t ≡ true) (room : List ℕ) (full : length room ≡ document_limits.canonical) where
    -- what was counted there decides
    module _ {after : List ℕ} {r : ℕ} (p : Puts room 0 (canonical_text t) after r) where
      counted : Puts room 0 (canonical_text t) after (measure t)
      counted = subst (λ (k : ℕ). Puts room 0 (canonical_text t) after k) (measures t p) p

      pub room-refused : document_limits.canonical < r
          → (Err refusal.CanonicalLength ≡ writes document_limits t room) × Puts room 0 (canonical_text t) after (measure t)
      room-refused h = ((too_long room w (measured_long r (measures t p) h)).0, counted)

      pub room-written : r ≤ document_limits.canonical → (Ok r ≡ writes document_limits t room) × Puts room 0 (canonical_text t) after (measure t)
      room-written h =
          let is = measured_is r (measures t p) h in
          let fits : len ≤ document_limits.canonical = omega (arith, h, is) in
          (ap Ok is ∙ (fine room w fits (omega (arith, fits, full))).0, counted)

    -- where it is refused, it is too long for any buffer
    pub refused_anywhere : (r : Refusal) → writes document_limits t room ≡ Err r → (out : List ℕ)
        → (writes document_limits t room ≡ writes document_limits t out) × (out ≡ buffer_after document_limits t out)
    refused_anywhere r e out =
        by_cases (ltb document_limits.canonical len)
        (λ l.
        let long = ltb-true document_limits.canonical len l in
        (sym (too_long room w long).0 ∙ (too_long out w long).0, (too_long out w long).1))
        (λ f.
        let fits = ltb-false document_limits.canonical len f in
        let g = (fine room w fits (omega (arith, fits, full))).0 in
        never (cc))

    -- where it was written, it is as long as is answered
    module _ (n : ℕ) (e : writes document_limits t room ≡ Ok n) where
      length-told : (n ≡ len) × (len ≤ document_limits.canonical)
      length-told =
          by_cases (ltb document_limits.canonical len)
          (λ l.
          let g = (too_long room w (ltb-true document_limits.canonical len l)).0 in
          never (cc))
          (λ f.
          let fits = ltb-false document_limits.canonical len f in
          let g = (fine room w fits (omega (arith, fits, full))).0 in
          (cc, fits))

      -- and can be taken from there
      pub taken_back : {after : List ℕ} → Puts room 0 (canonical_text t) after (measure t) → canonical_text t ≡ take n after
      taken_back {after = after} p =
          let is = length-told.0 in
          let fits = length-told.1 in
          let counts = most_of len max_counted (omega (arith, fits)) ∙ sym is in
          let whole = subst (λ (k : ℕ). Puts room 0 (canonical_text t) after k) counts p in
          sym (placed_whole room 0 whole (omega (arith, is, fits)) (omega (arith, is, fits, full)))

      pub too_short : (out : List ℕ) → length out < n → Answers out (Err refusal.ShortBuffer)
      too_short out g = short-buffer out w length-told.1 (omega (arith, g, length-told.0))

      -- the canonical text was put from the start on
      pub written : (out : List ℕ) → n ≤ length out → {after : List ℕ} {r : ℕ} → Puts out 0 (canonical_text t) after r
          → (Ok r ≡ writes document_limits t out) × (after ≡ buffer_after document_limits t out)
      written out g p =
          let fits = length-told.1 in
          let roomy : 0 + len ≤ length out = omega (arith, g, length-told.0) in
          let few : 0 + len ≤ max_counted = omega (arith, fits) in
          let due = fine out w fits (omega (arith, roomy)) in
          let counts = ap (λ (q : List ℕ × ℕ). q.1) p.is ∙ puts_count out 0 (canonical_text t) (omega arith) ∙ most_of (0 + len) max_counted few in (
            ap Ok (counts ∙ zero-add len) ∙ due.0,
            ap (λ (q : List ℕ × ℕ). q.0) p.is
                ∙ puts_buffer out 0 (canonical_text t) roomy few
                ∙ ap (λ (k : ℕ). canonical_text t ++ drop k out) (zero-add len)
                ∙ due.1,
          )
