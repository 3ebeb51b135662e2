use Rattle.definitions.specs.Forms.{address_of}
use Rattle.scan_cursors.proofs.Readings.{fmap_reads, pair_reads}
use Rattle.read_addresses.proofs.dotted.then_address.Goals as goal

pub returns : goal.returns
returns c =
    let n1 = c.then_dotted-n1.ensures in
    let n2 = c.then_dotted-n2.ensures in
    let n3 = c.then_dotted-n3.ensures in
    let n4 = pair_reads n3.inside c.then_byte-n4.ensures c.then_prefix-p.ensures in
    let all = pair_reads c.requires n1 (pair_reads n1.inside n2 (pair_reads n2.inside n3 n4)) in
    rw c.number_of.ensures (fmap_reads address_of all)
