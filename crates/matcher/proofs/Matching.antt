-- A well-formed table's parts can be matched without a test of refusal 20.
use mathlib.Core.Path.{◌≡◌}
use mathlib.Core.Bool.{true}
use Prim.Native.Nat.{◌≤◌}
use native.Mathlib.Omega.{arith}
use lib.ListN.{length}
use Rattle.definitions.specs.declared.table.Table.{Table}
use Rattle.definitions.specs.Limits.{document_limits}
use Rattle.definitions.specs.WellFormed.{well_formed}
use Rattle.search.proofs.Formed.{formed_searchable}
use Rattle.matcher.specs.Matching.{Matchable}

pub formed_matchable : (t : Table) → well_formed t ≡ true → length t.bytes ≤ document_limits.room → Matchable t.items t.count t.bytes
formed_matchable t w n =
    let x = formed_searchable t w t.bytes t.bytes (omega (arith, n)) (omega (arith, n)) (omega (arith, n)) in
    record { few = x.few; patterns = x.patterns; stored = x.stored; bytes = n }
