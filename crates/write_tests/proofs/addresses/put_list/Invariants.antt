use mathlib.Core.Path.{◌≡◌}
use lib.ListN.{drop}
use Rattle.definitions.specs.Canonical.{addresses_text}
use Rattle.write_bytes.specs.Puts.{puts}
use Rattle.write_tests.proofs.AddressLists.{list_from}
use Rattle.write_tests.proofs.addresses.put_list.Given as goal

abbrev pub invariant-loop-i : goal.invariant-loop-i
invariant-loop-i l =
    puts l.initial.out l.initial.next (addresses_text l.a-items) ≡ puts l.out l.next (list_from l.i (drop l.i l.a-items))
