-- Each arm rewrites with the value it matched and cites what its callee ensures.
use Rattle.read_insert.specs.Inserting.{value_inserted}
use Rattle.read_insert.proofs.insert_value.Goals as goal

pub returns-in-Name : goal.returns-in-Name
unfolding value_inserted
returns-in-Name c = simp (c.in-Name.is, c.insert_name.ensures)

pub returns-in-Protocol : goal.returns-in-Protocol
unfolding value_inserted
returns-in-Protocol c = simp (c.in-Protocol.is, c.insert_protocol.ensures)

pub returns-in-Flow : goal.returns-in-Flow
unfolding value_inserted
returns-in-Flow c = simp (c.in-Flow.is, c.insert_flow.ensures)

pub returns-in-Test : goal.returns-in-Test
unfolding value_inserted
returns-in-Test c = simp (c.in-Test.is, c.insert_test.ensures)

pub returns-in-Addresses : goal.returns-in-Addresses
unfolding value_inserted
returns-in-Addresses c = simp (c.in-Addresses.is, c.insert_addresses.ensures)

pub returns-in-Pattern : goal.returns-in-Pattern
unfolding value_inserted
returns-in-Pattern c = simp (c.in-Pattern.is, c.insert_pattern.ensures)

pub returns-in-Context : goal.returns-in-Context
unfolding value_inserted
returns-in-Context c = simp (c.in-Context.is, c.insert_context.ensures)

pub returns-in-NoCase : goal.returns-in-NoCase
unfolding value_inserted
returns-in-NoCase c = simp (c.in-NoCase.is, c.insert_nocase.ensures)

pub returns-in-Distance : goal.returns-in-Distance
unfolding value_inserted
returns-in-Distance c = simp (c.in-Distance.is, c.insert_distance.ensures)

pub returns-in-Within : goal.returns-in-Within
unfolding value_inserted
returns-in-Within c = simp (c.in-Within.is, c.insert_within.ensures)
