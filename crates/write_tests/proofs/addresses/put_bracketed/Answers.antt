use mathlib.Core.Path.{◌≡◌, ap, ◌∙◌}
use Prim.Native.Nat.{◌≤◌}
use native.Mathlib.Omega.{arith}
use lib.ListN.{length}
use Rattle.definitions.specs.Limits.{max_addresses}
use Rattle.definitions.specs.Canonical.{bracketed}
use Rattle.write_bytes.proofs.Clipping.{at_most_le, taken_most}
use Rattle.write_tests.proofs.AddressLists.{brackets, no_brackets}
use Rattle.write_bytes.proofs.Putting.{then, told}
use Rattle.write_tests.proofs.addresses.put_bracketed.Goals as goal

pub put_list-a2-requires : goal.put_list-a2-requires
put_list-a2-requires c = omega (arith, c.at_most-n.ensures, at_most_le c.args.count max_addresses)

pub returns-then-n-gt1 : goal.returns-then-n-gt1
returns-then-n-gt1 c =
    let x = c.args in
    let long : length x.list ≡ max_addresses = omega arith in
    let n = c.at_most-n in
    let few : n.result ≤ length x.list = omega (arith, long, n.ensures, at_most_le x.count max_addresses) in
    told (ap bracketed (taken_most x.count x.list long n.ensures) ∙ brackets x.list n.result few c.if-n-gt1.true)
    (then c.put-a1.ensures (then c.put_list-a2.ensures c.put.ensures))

pub returns : goal.returns
returns c =
    let n = c.at_most-n in
    let x = c.args in
    let long : length x.list ≡ max_addresses = omega arith in
    told (ap bracketed (taken_most x.count x.list long n.ensures) ∙ no_brackets x.list n.result c.if-n-gt1.false)
    c.put_list.ensures
