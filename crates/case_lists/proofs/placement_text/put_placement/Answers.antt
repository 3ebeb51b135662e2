use Rattle.write_bytes.proofs.Putting.{then}
use Rattle.case_lists.proofs.placement_text.put_placement.Goals as goal

pub returns : goal.returns
returns c = then c.put-a1.ensures
    (then c.put_starts-a2.ensures c.put.ensures)
