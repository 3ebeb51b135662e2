-- What a span shows lies within its buffer, at its own place there.
use Rattle.std.specs.Prelude.{Option, Some, None}
use mathlib.Core.Path.{◌≡◌, refl}
use mathlib.Core.Bool.{Bool, true, false}
use mathlib.Core.List.{List}
use Prim.Native.Nat.{ℕ, ◌+◌, ◌-◌, ◌≤◌}
use native.Mathlib.Omega.{arith}
use lib.ListN.{length, take, drop}
use lib.Dec.{ltb}
use borrow.Author.Tests.{ltb-false}
use denote.Ref.{Bor}
use Rattle.definitions.specs.declared.packets.Span.{Span}
use Rattle.definitions.specs.Fields.{shown}
use Rattle.field_parts.specs.Parts.{PartOf}

shown_inside : (f : Option Span) (b : List ℕ) → (shown f b).start + (shown f b).len ≤ length b
shown_inside None b = omega arith
shown_inside (Some sp) b = go (ltb (length b) (sp.start + sp.len)) refl
  where
    go : (t : Bool) → ltb (length b) (sp.start + sp.len) ≡ t → (shown (Some sp) b).start + (shown (Some sp) b).len ≤ length b
    go true e = rw e (omega arith)
    go false e = let k : sp.start + sp.len ≤ length b = ltb-false (length b) (sp.start + sp.len) e in rw e k

module _ (f : Option Span) (b : Bor (List ℕ)) (s : Span) (e : s ≡ shown f b.now) where
  pub end_inside : s.start + s.len ≤ length b.now
  end_inside = rw e (shown_inside f b.now)

  -- what is cut from the span's start to its end, at the start's place
  pub cut_out : PartOf b (shown f b.now) (record { ref_ptr = (b.ref_ptr.0, s.start + b.ref_ptr.1); now = take ((s.start + s.len) - s.start) (drop s.start b.now) })
  cut_out =
      record {
        block = refl;
        offset = rw (← e) (omega arith);
        bytes = let k : (s.start + s.len) - s.start ≡ s.len = omega arith in rw (k, e);
      }
