-- Each option has its own form; one whose value is no list stores no bytes.
use Rattle.read_names.specs.Names.{form_of}
use Rattle.read_by_name.proofs.by_name.option_by_name.Goals as goal

pub returns-in-Name : goal.returns-in-Name
unfolding form_of
returns-in-Name c = rw c.in-Name.is (c.name_option.ensures c.args.bytes.now)

pub returns-in-SourceAddress : goal.returns-in-SourceAddress
unfolding form_of
returns-in-SourceAddress c = rw c.in-SourceAddress.is (c.address_option.ensures c.args.bytes.now)

pub returns-in-DestinationAddress : goal.returns-in-DestinationAddress
unfolding form_of
returns-in-DestinationAddress c = rw c.in-DestinationAddress.is (c.address_option-in-DestinationAddress.ensures c.args.bytes.now)

pub returns-in-Pattern : goal.returns-in-Pattern
unfolding form_of
returns-in-Pattern c = rw c.in-Pattern.is c.pattern_option.ensures
