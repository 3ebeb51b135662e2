-- The caller's own part of a buffer. Section "Packet and fields", the field entry.
use Rattle.std.specs.Prelude.{ℕ, ◌+◌, ◌≡◌, List}
use Rattle.std.specs.Borrow.{Bor}
use Rattle.definitions.specs.declared.packets.Span.{Span}
use Rattle.definitions.specs.Fields.{cut}

-- r refers to the span's bytes of what b refers to: in the same block of memory, so many bytes after b's first, and of these values
pub record PartOf (b : Bor (List ℕ)) (sp : Span) (r : Bor (List ℕ)) : Type 0 where
  pub block : r.ref_ptr.0 ≡ b.ref_ptr.0
  pub offset : r.ref_ptr.1 ≡ b.ref_ptr.1 + sp.start
  pub bytes : r.now ≡ cut sp b.now
