-- A run of digits reads as a number within its limit or beyond it.
use mathlib.Core.Path.{◌≡◌, sym, ◌∙◌, subst}
use mathlib.Core.Bool.{Bool, true, false}
use mathlib.Core.List.{List, []}
use Prim.Native.Nat.{ℕ, ◌+◌, ◌-◌, ◌≤◌, ◌<◌}
use native.Mathlib.Omega.{arith}
use lib.ListN.{length, take, drop}
use lib.Dec.{leb, ltb}
use borrow.Author.Tests.{ltb-false, le-leb, lt-leb}
use Rattle.forms.specs.Bytes.{run}
use Rattle.forms.specs.Form.{Class, has}
use Rattle.forms.proofs.Bools.{by_cases}
use Rattle.definitions.specs.Numbers.{value_of}
use Rattle.scan_bytes.specs.Capped.{number_cap, capped}
use Rattle.scan_cursors.specs.declared.Cursor.TheVariants.{Parsed, OutOfRange, Failed}
use Rattle.scan_cursors.specs.Reads.{limited_by, Reads}
use Rattle.scan_cursors.proofs.Readings.{fmap_reads, limit_reads, failed_any, out_of_range-any}
use Rattle.scan_pieces.specs.Digits.{digits_within}
use Rattle.scan_pieces.proofs.Gaps.{run_none, run_some}

capped_low : (x v limit : ℕ) → x ≡ capped v → x ≤ limit → limit < number_cap → x ≡ v
capped_low x v limit e h g = by_cases (ltb v number_cap) (λ t. e ∙ rw t) (λ t. let q : x ≡ number_cap = e ∙ rw t in absurd (omega (arith, q)))

capped_high : (x v limit : ℕ) → x ≡ capped v → limit < x → limit < v
capped_high x v limit e h =
    by_cases (ltb v number_cap)
    (λ t. let q : x ≡ v = e ∙ rw t in omega (arith, q))
    (λ t. let q : x ≡ number_cap = e ∙ rw t in omega (arith, q, ltb-false v number_cap t))

-- a run of digits by the place after it
module _ (k : Class) (base limit : ℕ) (s : List ℕ) (at end x : ℕ) (h : at ≤ length s) (e : end ≡ at + run (has k) (drop at s)) where
  abbrev fits : ℕ → Bool
  fits n = leb n limit

  pub no_digits : end ≡ at → (v : ℕ) → Reads (digits_within k base limit) s (Parsed at) v (Failed at)
  no_digits z v = failed_any (limit_reads fits h (fmap_reads (value_of base 0) (run_none k s at end h e z []))) v

  module _ (some : end ≡ at → ⊥) (far : limit < number_cap) (sum : x ≡ capped (value_of base 0 (take (end - at) (drop at s)))) where
    abbrev value : ℕ
    value = value_of base 0 (take (end - at) (drop at s))

    whole : Reads (digits_within k base limit) s (Parsed at) value (limited_by (leb value limit) at (Parsed end))
    whole = limit_reads fits h (fmap_reads (value_of base 0) (run_some k s at end h e some))

    pub digits_within_lem : x ≤ limit → Reads (digits_within k base limit) s (Parsed at) x (Parsed end)
    digits_within_lem g =
        let z = capped_low x value limit sum g far in
        let y : leb value limit ≡ true = le-leb value limit (omega (arith, z, g)) in
        subst (λ (v : ℕ). Reads (digits_within k base limit) s (Parsed at) v (Parsed end)) (sym z) (rw y at whole)

    pub digits_beyond : limit < x → (v : ℕ) → Reads (digits_within k base limit) s (Parsed at) v (OutOfRange at end)
    digits_beyond g v = let y : leb value limit ≡ false = lt-leb value limit (capped_high x value limit sum g) in out_of_range-any (rw y at whole) v
