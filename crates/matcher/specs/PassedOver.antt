-- What a table can be passed over by before anything of it is looked at: its protocol and its flow.
use Rattle.std.specs.Prelude.{ℕ, Bool, ◌&&◌, List, length, get_or, eqb, leb}
use Rattle.definitions.specs.declared.table.Flow.{Flow}
use Rattle.definitions.specs.declared.packets.Direction.{Direction}
use Rattle.definitions.specs.Tests.{flow_holds}

-- the packet's tenth byte, where the protocol stands, and where it comes from, go with the table's
unfoldable pub may_meet : ℕ → Flow → List ℕ → Direction → Bool
may_meet protocol flow p dir = leb 10 (length p) && (eqb (get_or p 9 0) protocol && flow_holds flow dir)
