-- What is known of a packet's lengths where 32 is not due.
use mathlib.Core.Path.{◌≡◌, refl}
use mathlib.Core.Bool.{Bool, true, false, ◌||◌}
use mathlib.Core.List.{List}
use Prim.Native.Nat.{ℕ, ◌≤◌}
use lib.ListN.{length}
use lib.Dec.{ltb}
use borrow.Author.Tests.{ltb-false}
use Rattle.definitions.specs.Packet.{header_words, header_length, total_length}

pub neither_left : (a b : Bool) → (a || b) ≡ false → a ≡ false
neither_left true b e = e
neither_left false b e = refl

pub neither_right : (a b : Bool) → (a || b) ≡ false → b ≡ false
neither_right true b e = cc
neither_right false b e = e

pub record Lengths (p : List ℕ) : Type 0 where
  pub words : 5 ≤ header_words p
  pub header : header_length p ≤ total_length p
  pub total : total_length p ≤ length p

pub lengths : (p : List ℕ) → (ltb (header_words p) 5 || (ltb (total_length p) (header_length p) || ltb (length p) (total_length p))) ≡ false → Lengths p
lengths p e =
    let rest = neither_right (ltb (header_words p) 5) _ e in
    record {
      words = ltb-false (header_words p) 5 (neither_left _ _ e);
      header = ltb-false (total_length p) (header_length p) (neither_left _ _ rest);
      total = ltb-false (length p) (total_length p) (neither_right (ltb (total_length p) (header_length p)) _ rest);
    }
