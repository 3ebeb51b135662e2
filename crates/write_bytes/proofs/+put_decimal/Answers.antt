-- The digits of a tenth, and the last digit.
use Rattle.write_bytes.proofs.Putting.{then, told}
use Rattle.write_bytes.proofs.Decimals.{decimal_one, decimal_more}
use Rattle.write_bytes.proofs.+put_decimal.Goals as goal

pub returns-then-n-lt10 : goal.returns-then-n-lt10
returns-then-n-lt10 t c = told (decimal_one c.args.n c.if-n-lt10.true) c.put.ensures

pub returns : goal.returns
returns t c = told (decimal_more c.args.n c.if-n-lt10.false) (then c.put_decimal-next.ensures c.put-2.ensures)
