use Rattle.write_values.proofs.LeftOut.{mask_full, mask_given}
use Rattle.write_bytes.proofs.Putting.{none_put, then, told}
use Rattle.write_values.proofs.put_mask.Goals as goal

pub returns-then-t-field_most : goal.returns-then-t-field_most
returns-then-t-field_most c = told (mask_full c.args.t c.field_most.result c.field_most.ensures c.if-t-field_most.true) none_put

pub returns : goal.returns
returns c = told (mask_given c.args.t c.field_most.result c.field_most.ensures c.if-t-field_most.false)
    (then c.put_word-a1.ensures
    (then c.put_decimal-a2.ensures c.put.ensures))
