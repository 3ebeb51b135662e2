-- The readings of `many` and `some` over a class that a run of bytes gives.
use mathlib.Core.Path.{◌≡◌, refl, sym, ap, ◌∙◌}
use mathlib.Core.List.{List, []}
use Prim.Native.Nat.{ℕ, ◌+◌, ◌-◌, ◌≤◌}
use native.Mathlib.Omega.{arith}
use lib.ListN.{length, take, drop, length-drop}
use borrow.Author.Tests.{eq-eqb, ne_eqb}
use Rattle.forms.specs.Bytes.{run}
use Rattle.forms.specs.Form.{Class, has, Form, byte, many}
use Rattle.forms.specs.Scan.{Got, scan, over}
use Rattle.forms.specs.Place.{Failed, read_at}
use Rattle.forms.specs.Pieces.{some}
use Rattle.forms.proofs.Pieces.{many_bytes, some_bytes, over_unbounded}
use Rattle.scan_cursors.specs.declared.Cursor.TheVariants as cursor
use Rattle.scan_cursors.specs.Reads.{Reads}
use Rattle.list_laws.proofs.Runs.{run_le, run_in}

-- the readings of a run
module _ (c : Class) (s : List ℕ) (at : ℕ) (h : at ≤ length s) where
  abbrev count : ℕ
  count = run (has c) (drop at s)

  left : length s - length (drop count (drop at s)) ≡ at + count
  left = omega (arith, length-drop count (drop at s), length-drop at s, run_le (has c) (drop at s), h)

  got : (f : Form (List ℕ)) → over f (drop at s) ≡ [] → scan f (drop at s) ≡ Got (take count (drop at s)) (drop count (drop at s))
      → Reads f s (cursor.Parsed at) (take count (drop at s)) (cursor.Parsed (at + count))
  unfolding read_at
  got f o e = record { reads = sym (rw (o, e, left)); inside = run_in c s at h }

  many_run : Reads (many (byte c)) s (cursor.Parsed at) (take count (drop at s)) (cursor.Parsed (at + count))
  many_run = got (many (byte c)) (over_unbounded (many (byte c)) refl (drop at s)) (many_bytes c (has c) (λ b. refl) (drop at s))

  some_run : (count ≡ 0 → ⊥) → Reads (some (byte c)) s (cursor.Parsed at) (take count (drop at s)) (cursor.Parsed (at + count))
  some_run n = got (some (byte c)) (over_unbounded (some (byte c)) refl (drop at s)) (some_bytes c (has c) (λ b. refl) (drop at s) ∙ rw (ne_eqb count 0 n))

  some_none : count ≡ 0 → (v : List ℕ) → Reads (some (byte c)) s (cursor.Parsed at) v (cursor.Failed at)
  unfolding read_at
  some_none n v =
      record {
        reads = sym (rw (over_unbounded (some (byte c)) refl (drop at s), some_bytes c (has c) (λ b. refl) (drop at s), eq-eqb count 0 n)
            (ap Failed (omega (arith, length-drop at s, h))));
        inside = h;
      }

-- the same by the place after the run
module _ (c : Class) (s : List ℕ) (at end : ℕ) (h : at ≤ length s) (e : end ≡ at + run (has c) (drop at s)) where
  counted : run (has c) (drop at s) ≡ end - at
  counted = omega (arith, e)

  around : at + (end - at) ≡ end
  around = omega (arith, e)

  pub run_end : end ≤ length s
  run_end = omega (arith, run_in c s at h, e)

  pub run_none : end ≡ at → (v : List ℕ) → Reads (some (byte c)) s (cursor.Parsed at) v (cursor.Failed at)
  run_none z v = some_none c s at h (omega (arith, z, e)) v

  pub run_some : (end ≡ at → ⊥) → Reads (some (byte c)) s (cursor.Parsed at) (take (end - at) (drop at s)) (cursor.Parsed end)
  run_some n = rw (counted, around) at (some_run c s at h (λ z. n (omega (arith, z, e))))

  pub run_any : Reads (many (byte c)) s (cursor.Parsed at) (take (end - at) (drop at s)) (cursor.Parsed end)
  run_any = rw (counted, around) at (many_run c s at h)
