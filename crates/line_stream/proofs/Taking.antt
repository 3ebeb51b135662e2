-- What the steps are made of: a line is taken, and after the last one none waits.
use mathlib.Core.Path.{◌≡◌, sym, subst}
use mathlib.Core.Bool.{Bool, false}
use mathlib.Core.List.{List}
use Prim.Native.Nat.{ℕ, ◌-◌, ◌≤◌}
use native.Mathlib.Omega.{arith}
use lib.Dec.{ltb}
use lib.ListN.{length, take, drop}
use borrow.Author.Tests.{le-ltb}
use Rattle.write_bytes.specs.Puts.{Puts}
use Rattle.write_bytes.proofs.Putting.{none_put}
use Rattle.line_stream.specs.declared.Begun.{Begun}
use Rattle.line_stream.specs.declared.Feeding.{Feeding}
use Rattle.line_stream.specs.Steps.{lf_from, Keeps, line_opening, Takes, Lasts}
use Rattle.line_stream.proofs.Parts.{line_slice}

-- ---- a line is taken

module _ (input : List ℕ) (i place : ℕ) (b : Begun) where
  abbrev taken : ℕ → ℕ → ℕ → Bool → Feeding
  taken e len at w = record { fed = record { taken = e; put = place; begun = record { number = b.number; len = len } }; at = at; waits = w }

  takes_if : (e : ℕ) {line line' out out' : List ℕ} {len at : ℕ} (w : Bool) → e ≡ lf_from input i → Keeps line line' b.len (take (e - i) (drop i input)) len
      → w ≡ ltb e (length input) → Puts out place (line_opening w b.number) out' at → Takes input i line line' out out' place b (taken e len at w)
  takes_if e {line = line} {line' = line'} {len = len} {at = at} w is k t p = record {
    len = len;
    next = at;
    keeps = subst (λ (l : List ℕ). Keeps line line' b.len l len) (line_slice input i is) k;
    opened = rw (sym is, sym t) p;
    is = rw (sym is, sym t);
  }

  pub takes_end : {e : ℕ} {line line' out : List ℕ} {len : ℕ} → e ≡ lf_from input i → Keeps line line' b.len (take (e - i) (drop i input)) len
      → length input ≤ e → Takes input i line line' out out place b (taken e len place false)
  takes_end {e = e} is k h = takes_if e false is k (sym (le-ltb e (length input) h)) none_put

-- ---- the last line

module _ (line : List ℕ) (b : Begun) where
  abbrev last : ℕ → Bool → Feeding
  last at w = record { fed = record { taken = 0; put = 0; begun = b }; at = at; waits = w }

  -- no byte of it is kept
  pub lasts_none : {out : List ℕ} → length (take b.len line) ≡ 0 → Lasts line out out b (last 0 false)
  lasts_none z =
      let none : false ≡ ltb 0 (length (take b.len line)) = sym (le-ltb 0 (length (take b.len line)) (omega (arith, z))) in
      record { next = 0; opened = rw (sym none) none_put; is = rw (sym none) }
