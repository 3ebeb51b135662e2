-- A test of a field's length: in a field that is present its length is compared.
use mathlib.Core.Path.{◌≡◌}
use mathlib.Core.Bool.{Bool, true}
use mathlib.Core.List.{List}
use Prim.Native.Nat.{ℕ}
use lib.ListN.{length}
use Rattle.definitions.specs.declared.table.Context.{Context}
use Rattle.definitions.specs.declared.table.SizeTest.{SizeTest}
use Rattle.definitions.specs.declared.packets.PacketHeader.{PacketHeader}
use Rattle.definitions.specs.declared.packets.FieldMap.{FieldMap}
use Rattle.definitions.specs.Fields.{present, field_of, size_context}
use Rattle.definitions.specs.Tests.{order_holds, size_holds}
use Rattle.fields.specs.Seen.{seen}

module _ (f : PacketHeader) (s d : List ℕ) (m : FieldMap) (c : Context) where
  module _ (t : SizeTest) (e : c ≡ size_context t.field) where
    pub size_present : present m c ≡ true → (len n : ℕ) (r : Bool) → len ≡ length (field_of s d m c) → n ≡ t.number → r ≡ order_holds t.order len n
        → r ≡ size_holds (seen f s d m) t
    unfolding size_holds
    size_present p len n r l q h = rw (← e, p, ← l, ← q) h
