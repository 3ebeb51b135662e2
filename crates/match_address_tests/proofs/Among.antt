-- An address among some, as a test of any of them.
use mathlib.Core.Path.{◌≡◌, refl}
use mathlib.Core.List.{List, [], ◌∷◌}
use Prim.Native.Nat.{ℕ}
use Rattle.std.specs.List.{list_any}
use Rattle.definitions.specs.declared.table.Address.{Address}
use Rattle.definitions.specs.Tests.{same_bits, in_addresses}

pub among_any : (x : ℕ) (l : List Address) → in_addresses x l ≡ list_any (λ (a : Address). same_bits a.prefix x a.number) l
unfolding in_addresses
among_any x [] = refl
among_any x (a ∷ l) = rw (among_any x l)
