-- WRITING UNDER TWO LIMITS: a well-formed table whose canonical text is within the first is, widened, written alike under the second, into every buffer
-- (`writes_widened`), and a longer one is 21 under the first (`too_long_lem`); so a text that is written has the same line (`line_widened`).
use Rattle.std.specs.Prelude.{Result, Ok, Err}
use mathlib.Core.Path.{◌≡◌, refl, sym, ap, ap₂, ◌∙◌}
use mathlib.Core.Bool.{true}
use mathlib.Core.List.{List}
use Prim.Native.Nat.{ℕ, ◌≤◌, ◌<◌}
use native.Mathlib.Omega.{arith}
use lib.ListN.{length}
use borrow.Author.Tests.{le-ltb, lt-ltb}
use Rattle.definitions.specs.declared.table.Table.{Table}
use Rattle.definitions.specs.declared.answers.Refusal.TheVariants as refusal
use Rattle.definitions.specs.declared.answers.Refusal.{Refusal}
use Rattle.definitions.specs.declared.answers.TextRefusal.{TextRefusal}
use Rattle.definitions.specs.Limits.{Limits}
use Rattle.definitions.specs.Reading.{read}
use Rattle.definitions.specs.WellFormed.{well_formed}
use Rattle.definitions.specs.Canonical.{canonical_text}
use Rattle.definitions.specs.Writing.{writing_check, written_if, buffer_if, writes, buffer_after}
use Rattle.definitions.specs.Lines.{canonical_line, line_by, reading_line, line_of}
use Rattle.roundtrip.proofs.Buffer.{nothing_check}
use Rattle.roundtrip.proofs.Read.{read_well}
use Rattle.limit_laws.specs.LongerTexts.{Raised, widened, widened_reading}
use Rattle.limit_laws.proofs.WidenedTables.{formed_widened, canonical_widened}
use Rattle.limit_laws.proofs.WidenedReading.{read_widened}

module _ (a b : Limits) (h : Raised a b) where
  module _ (t : Table) (w : well_formed t ≡ true) where
    check_widened : length (canonical_text t) ≤ a.canonical → (n : ℕ) → writing_check b (widened b.room t) n ≡ writing_check a t n
    unfolding writing_check
    check_widened l n =
        rw (
          formed_widened b.room t w,
          w,
          canonical_widened b.room t w,
          le-ltb b.canonical (length (canonical_text t)) (omega (arith, l, h.canonical)),
          le-ltb a.canonical (length (canonical_text t)) l,
        )

    pub writes_widened : length (canonical_text t) ≤ a.canonical → (out : List ℕ)
        → (writes b (widened b.room t) out ≡ writes a t out) × (buffer_after b (widened b.room t) out ≡ buffer_after a t out)
    unfolding writes buffer_after
    writes_widened l out =
        let c = check_widened l (length out) in
        let e = canonical_widened b.room t w in
        (ap₂ (λ (d : Result Unit Refusal) (s : List ℕ). written_if d (length s)) c e, ap₂ (λ (d : Result Unit Refusal) (s : List ℕ). buffer_if d s out) c e)

    check_too_long : a.canonical < length (canonical_text t) → (n : ℕ) → writing_check a t n ≡ Err refusal.CanonicalLength
    unfolding writing_check
    check_too_long l n = rw (w, lt-ltb a.canonical (length (canonical_text t)) l)

    pub too_long_lem : a.canonical < length (canonical_text t) → (out : List ℕ)
        → (writes a t out ≡ Err refusal.CanonicalLength) × (buffer_after a t out ≡ out)
    unfolding writes buffer_after
    too_long_lem l out =
        let c = check_too_long l (length out) in
        (ap (λ (d : Result Unit Refusal). written_if d (length (canonical_text t))) c, ap (λ (d : Result Unit Refusal). buffer_if d (canonical_text t) out) c)

  -- what is read is well formed
  pub accepted_formed : (s : List ℕ) → (read a s).outcome ≡ Ok tt → well_formed (read a s).table ≡ true
  accepted_formed s e = read_well a s (read a s).table h.holds (λ i. record { outcome = e i; table = (read a s).table })

  -- by what the reading says
  line_by_lem : (o : Result Unit TextRefusal) (t : Table) → (o ≡ Ok tt → well_formed t ≡ true) → (o ≡ Ok tt → length (canonical_text t) ≤ a.canonical)
      → line_by b o (widened b.room t) ≡ line_by a o t
  line_by_lem (Ok tt) t f g =
      let w = f refl in
      let l = g refl in
      let e = canonical_widened b.room t w in
      let under-a = nothing_check a t a.canonical w l l in
      let short : length (canonical_text (widened b.room t)) ≤ b.canonical = rw e (omega (arith, l, h.canonical)) in
      let under-b = nothing_check b (widened b.room t) b.canonical (formed_widened b.room t w) short short in
      ap₂ canonical_line under-b refl ∙ (rw e refl ∙ sym (ap₂ canonical_line under-a refl))
  line_by_lem (Err e) t f g = refl

  pub line_widened : (s : List ℕ) → length s ≤ a.text
      → ((read a s).outcome ≡ Ok tt → length (canonical_text (read a s).table) ≤ a.canonical) → line_of b s ≡ line_of a s
  unfolding line_of widened_reading
  line_widened s n l =
      ap (reading_line b) (read_widened a b h s n) ∙ line_by_lem (read a s).outcome (read a s).table (accepted_formed s) l
