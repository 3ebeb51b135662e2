use mathlib.Core.Path.{refl}
use Rattle.definitions.specs.declared.table.Item.TheVariants as item
use Rattle.definitions.specs.Canonical.{test_text}
use Rattle.write_options.proofs.Items.{unused_text, address_text_lem, plain_text}
use Rattle.write_bytes.proofs.Putting.{none_put, told}
use Rattle.write_options.proofs.put_slot.Goals as goal

pub returns-in-Unused : goal.returns-in-Unused
returns-in-Unused c = told (unused_text c.args.slot c.args.b.now c.in-Unused.is) none_put

pub returns-in-Address : goal.returns-in-Address
returns-in-Address c = told (address_text_lem c.args.slot c.args.b.now c.in-Address.a c.in-Address.is) c.put_address_test.ensures

pub returns-in-SameIp : goal.returns-in-SameIp
unfolding test_text
returns-in-SameIp c = told (plain_text c.args.slot c.args.b.now item.SameIp refl c.in-SameIp.is) c.put_word.ensures

pub returns-in-Number : goal.returns-in-Number
returns-in-Number c = told (plain_text c.args.slot c.args.b.now (item.Number c.in-Number.t) refl c.in-Number.is) c.put_number_test.ensures

pub returns-in-Ttl : goal.returns-in-Ttl
returns-in-Ttl c = told (plain_text c.args.slot c.args.b.now (item.Ttl c.in-Ttl.t) refl c.in-Ttl.is) c.put_ttl_test.ensures

pub returns-in-Field : goal.returns-in-Field
returns-in-Field c = told (plain_text c.args.slot c.args.b.now (item.Field c.in-Field.t) refl c.in-Field.is) c.put_field_test.ensures

pub returns-in-Size : goal.returns-in-Size
returns-in-Size c = told (plain_text c.args.slot c.args.b.now (item.Size c.in-Size.t) refl c.in-Size.is) c.put_size_test.ensures

pub returns-in-At : goal.returns-in-At
returns-in-At c = told (plain_text c.args.slot c.args.b.now (item.At c.in-At.t) refl c.in-At.is) c.put_at_test.ensures

pub returns-in-Byte : goal.returns-in-Byte
returns-in-Byte c = told (plain_text c.args.slot c.args.b.now (item.Byte c.in-Byte.t) refl c.in-Byte.is) c.put_byte_test.ensures
