use mathlib.Core.Path.{◌≡◌, sym, ◌∙◌}
use native.Mathlib.Omega.{arith}
use lib.ListN.{length}
use Rattle.list_laws.proofs.Runs.{run_on, run_halt, run_out}
use Rattle.scan_bytes.proofs.runs.run_of.Goals as goal

pub returns-then-not-in_class : goal.returns-then-not-in_class
returns-then-not-in_class c = run_halt _ _ _ _ c.loop-i.invariant (omega arith) (sym c.in_class.ensures ∙ c.if-not-in_class.true)

pub loop-i-preserved : goal.loop-i-preserved
loop-i-preserved c = run_on _ _ _ _ c.loop-i.invariant (omega arith) (sym c.in_class.ensures ∙ c.if-not-in_class.false)

pub returns : goal.returns
returns c =
    let all : length c.args.s.now ≡ c.loop-i.i = omega arith in
    all ∙ run_out _ _ _ _ c.loop-i.invariant c.loop-i-test.false
