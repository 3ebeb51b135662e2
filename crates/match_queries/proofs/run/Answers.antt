-- The buffer with the queries so far answered, and the others still to come, is what is written in the end.
use mathlib.Core.Path.{ap, ◌∙◌}
use native.Mathlib.Omega.{arith}
use Rattle.definitions.specs.Queries.{query_answer}
use Rattle.match_queries.proofs.Running.{no_room, run_start, run_step, run_done}
use Rattle.match_queries.proofs.run.Goals as goal

pub returns-then-out-queries : goal.returns-then-out-queries
returns-then-out-queries c =
    let x = c.args in
    let z = no_room x.t x.p.now x.decoded.now x.dir x.m x.held x.queries.now x.out.now (omega arith) in
    record { value = z.0; out_after = z.1 }

pub loop-i-init : goal.loop-i-init
loop-i-init c =
    let x = c.args in
    run_start x.t x.p.now x.decoded.now x.dir x.m x.held x.queries.now x.out.now (omega arith)

pub loop-i-preserved : goal.loop-i-preserved
loop-i-preserved c =
    let x = c.args in
    let l = c.loop-i in
    let put = c.put_answer in
    let r = c.answer_to-a in
    let query = c.query_of.ensures in
    let answer = r.ensures ∙ ap (query_answer x.t x.p.now x.decoded.now x.dir x.m l.h) query in
    l.invariant
    ∙ run_step x.t x.p.now x.decoded.now x.dir x.m x.queries.now l.out put.new.out l.h l.i r.result c.loop-i-test.true (omega arith) answer put.ensures put.auto.out

pub returns : goal.returns
returns c =
    let x = c.args in
    let l = c.loop-i in
    let z = run_done x.t x.p.now x.decoded.now x.dir x.m x.held x.queries.now x.out.now l.out l.h l.i (omega arith)
    (omega arith) l.invariant in
    record { value = z.0; out_after = z.1 }
