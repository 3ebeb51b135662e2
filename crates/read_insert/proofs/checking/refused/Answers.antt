-- The table made anew computes to the table of no options, with what `no_slot` ensures.
use Rattle.definitions.specs.Tables.{name_in, protocol_in, flow_in, bytes_in, slots_in, table_of}
use Rattle.read_insert.proofs.checking.refused.Goals as goal

pub returns : goal.returns
unfolding table_of name_in protocol_in flow_in bytes_in slots_in
returns c = simp c.no_slot.ensures
