-- A byte of a class at a place: what the code's look at one byte says of the form of one byte.
use mathlib.Core.Path.{◌≡◌, refl, sym, ◌∙◌, subst}
use mathlib.Core.Bool.{true, false, false≢true}
use mathlib.Core.List.{List, [], ◌∷◌}
use Prim.Native.Nat.{ℕ, ◌+◌, ◌≤◌, ◌<◌}
use native.Mathlib.Omega.{arith}
use lib.ListN.{length, drop, get_or, drop_of_length-le}
use lib.Seq.{drop-cons}
use lib.Dec.{eqb, ltb}
use borrow.Author.Tests.{eqb-true, ltb-true, ltb-false}
use Rattle.forms.specs.Form.{Class, has, byte}
use Rattle.forms.specs.Scan.{begins}
use Rattle.forms.specs.Pieces.{literal, opt, literal_as}
use Rattle.forms.proofs.Bools.{by_cases, or-false}
use Rattle.forms.proofs.Words.{span_one}
use Rattle.scan_cursors.specs.declared.Cursor.TheVariants.{Parsed, Failed}
use Rattle.scan_cursors.specs.Reads.{Reads}
use Rattle.scan_cursors.proofs.Readings.{byte_reads, byte_stops, byte_ends, fmap_reads, pure_reads}
use Rattle.scan_cursors.proofs.Choices.{first_reads, second_reads}

module _ (c : Class) (s : List ℕ) (at : ℕ) where
  pub begins_at : at < length s → begins c (drop at s) ≡ has c (get_or s at 0)
  begins_at h = rw (drop-cons s at 0 h)

  pub begins_out : length s ≤ at → begins c (drop at s) ≡ false
  begins_out h = rw (drop_of_length-le s h)

  pub begins_in : begins c (drop at s) ≡ true → at < length s
  begins_in e =
      by_cases (ltb at (length s))
      (λ t. ltb-true at (length s) t)
      (λ t. absurd (false≢true (sym (begins_out (ltb-false at (length s) t)) ∙ e)))

  -- a byte that stands there leaves a place after it
  pub begun_in : begins c (drop at s) ≡ true → at + 1 ≤ length s
  begun_in e = let h = begins_in e in omega arith

  -- the byte that stands there is of the class
  pub byte_begun : begins c (drop at s) ≡ true → Reads (byte c) s (Parsed at) (get_or s at 0) (Parsed (at + 1))
  byte_begun e = let h = begins_in e in byte_reads c s at h (sym (begins_at h) ∙ e)

  pub byte_none : at ≤ length s → begins c (drop at s) ≡ false → (v : ℕ) → Reads (byte c) s (Parsed at) v (Failed at)
  byte_none i e v =
      by_cases (ltb at (length s))
      (λ t. let h = ltb-true at (length s) t in byte_stops c s at h (sym (begins_at h) ∙ e) v)
      (λ t. byte_ends c s at (omega (arith, ltb-false at (length s) t)) v)

-- one byte
pub has_one : (b x : ℕ) → has ((b, b) ∷ []) x ≡ eqb x b
unfolding has
has_one b x = or-false _ ∙ span_one x b

pub literal_begun : (b : ℕ) (s : List ℕ) (at : ℕ) → begins ((b, b) ∷ []) (drop at s) ≡ true → Reads (literal b) s (Parsed at) b (Parsed (at + 1))
literal_begun b s at e =
    let h = begins_in ((b, b) ∷ []) s at e in
    let q : get_or s at 0 ≡ b = eqb-true _ _ (sym (has_one b (get_or s at 0)) ∙ sym (begins_at ((b, b) ∷ []) s at h) ∙ e) in
    subst (λ (x : ℕ). Reads (literal b) s (Parsed at) x (Parsed (at + 1))) q (byte_begun ((b, b) ∷ []) s at e)

-- an optional byte
module _ (b : ℕ) (s : List ℕ) (at : ℕ) where
  pub mark_yes : begins ((b, b) ∷ []) (drop at s) ≡ true → Reads (opt false (literal_as b true)) s (Parsed at) true (Parsed (at + 1))
  mark_yes e = first_reads refl e (fmap_reads (λ (x : ℕ). true) (literal_begun b s at e))

  pub mark_no : at ≤ length s → begins ((b, b) ∷ []) (drop at s) ≡ false → Reads (opt false (literal_as b true)) s (Parsed at) false (Parsed at)
  mark_no h e = second_reads refl e (pure_reads false s (Parsed at) h)
