-- The refusals before the options.
use mathlib.Core.Path.{◌≡◌, refl, sym}
use mathlib.Core.Bool.{true, false}
use mathlib.Core.List.{List, [], ◌∷◌}
use Prim.Native.Nat.{ℕ, ◌≤◌, ◌<◌}
use native.Mathlib.Omega.{arith}
use lib.ListN.{length, take, drop, length-take}
use lib.Dec.{eqb, ltb, eqb-suc-zero}
use borrow.Author.Tests.{ne_eqb, eqb-false, lt-ltb, le-ltb, ltb-false}
use Rattle.forms.specs.Bytes.{run}
use Rattle.forms.proofs.Bools.{by_cases}
use Rattle.definitions.specs.declared.answers.Refusal.TheVariants as refusal
use Rattle.definitions.specs.Limits.{document_limits}
use Rattle.definitions.specs.Lists.{none?}
use Rattle.definitions.specs.Reading.{at_letter, options, finished, refused_reading, unbounded_placing, read_placing, read}
use Rattle.definitions.specs.Options.{opening, printable}
use Rattle.read_frame.specs.Framing.{is_opened}
use Rattle.read_frame.proofs.Fronts.{same_length}

-- a text that is opened is long enough
pub opened_long : (s : List ℕ) → is_opened s ≡ true → 7 ≤ length s
opened_long s e = let l = same_length (take 7 s) opening e in omega (arith, l, length-take 7 s)

-- ---- the refusals before the options, in their order

module _ (s : List ℕ) where
  none_by : (l : List ℕ) → none? l ≡ eqb (length l) 0
  none_by [] = refl
  none_by (x ∷ l) = sym (eqb-suc-zero (length l))

  pub read_length : ((1 ≤ length s) × (length s ≤ document_limits.text) → ⊥) → read document_limits s ≡ refused_reading document_limits.room refusal.TextLength 0
  unfolding read_placing unbounded_placing
  read_length n =
      by_cases (ltb document_limits.text (length s))
      (λ t. rw t)
      (λ f.
      by_cases (eqb (length s) 0)
      (λ e. rw (f, none_by s, e))
      (λ g. let some = eqb-false (length s) 0 g in absurd (n (omega arith, ltb-false document_limits.text (length s) f))))

  module _ (some : 1 ≤ length s) (short : length s ≤ document_limits.text) where
    pub read_byte : run printable s < length s → read document_limits s ≡ refused_reading document_limits.room refusal.TextByte (run printable s)
    unfolding read_placing unbounded_placing
    read_byte h = rw (le-ltb document_limits.text (length s) short, none_by s, ne_eqb (length s) 0 (λ e. omega (arith, e)), lt-ltb (run printable s) (length s) h)

    module _ (clean : length s ≤ run printable s) where
      pub read-unopened : is_opened s ≡ false → read document_limits s ≡ refused_reading document_limits.room refusal.Opening 0
      unfolding read_placing unbounded_placing
      read-unopened e = rw (le-ltb document_limits.text (length s) short, none_by s, ne_eqb (length s) 0 (λ e. omega (arith, e)), le-ltb (run printable s) (length s) clean, e)

      pub read_opened : is_opened s ≡ true → read document_limits s ≡ finished document_limits.room s (options at_letter s (drop 7 s) 0 7 [])
      unfolding read_placing unbounded_placing
      read_opened e = rw (le-ltb document_limits.text (length s) short, none_by s, ne_eqb (length s) 0 (λ e. omega (arith, e)), le-ltb (run printable s) (length s) clean, e)
