-- The value has the option's form, and nothing is stored beside it.
use Rattle.read_by_name.proofs.PlainOptions.{plain_parses}
use Rattle.read_by_name.proofs.by_name.plain_by_name.Goals as goal

pub returns : goal.returns
returns c = plain_parses c.args.o c.requires.0 c.value_by_name-v.ensures c.no_addresses.ensures
