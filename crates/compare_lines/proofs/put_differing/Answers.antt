-- The words that are wanted, each after its comma.
use Rattle.write_bytes.proofs.Putting.{then, told}
use Rattle.compare_lines.proofs.Differing.{words_parted}
use Rattle.compare_lines.proofs.put_differing.Goals as goal

pub returns : goal.returns
returns c =
    let x = c.args in
    told (words_parted x.state x.action x.table)
    (then c.put_if-a1.ensures (then c.put_if-a2.ensures (then c.put_if-a3.ensures (then c.put_if-a4.ensures c.put_if.ensures))))
