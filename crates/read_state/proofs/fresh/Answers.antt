-- A state with nothing said computes to the state of no options.
use mathlib.Core.Path.{refl}
use Rattle.read_state.specs.State.{state_from, last_place}
use Rattle.definitions.specs.Lists.{any?, keep}
use Rattle.definitions.specs.Tables.{name_in, protocol_in, flow_in, bytes_in, slots_in}
use Rattle.definitions.specs.Occurrences.{latest}
use Rattle.read_state.proofs.fresh.Goals as goal

pub returns : goal.returns
unfolding state_from name_in protocol_in flow_in bytes_in slots_in any? keep latest last_place
returns c = refl
