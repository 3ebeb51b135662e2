-- What is still to be put is the bytes of the numbers from the loop's place on.
use Rattle.std.proofs.lemmas.List.{take_min}
use mathlib.Core.Path.{◌≡◌, sym, ap, ◌∙◌}
use Prim.Native.Nat.{ℕ}
use native.Mathlib.Omega.{arith}
use lib.ListN.{take}
use Rattle.write_bytes.proofs.Putting.{told}
use Rattle.block_answers.specs.AnswerBytes.{answer_bytes}
use Rattle.block_answers.proofs.Answers.{answer-on, answers-all}
use Rattle.block_answers.proofs.put_answers.Goals as goal

pub loop-a-preserved : goal.loop-a-preserved
loop-a-preserved c =
    let l = c.loop-a in
    l.invariant ∙ answer-on (take c.min.result c.args.numbers.now) l.a-index (omega arith) c.put-next.ensures c.put-next-in-loop-a.ensures c.put-next-in-loop-a-2.ensures

pub returns : goal.returns
returns c =
    let l = c.loop-a in
    let x = c.args in
    let all : take x.n x.numbers.now ≡ take c.min.result x.numbers.now = sym (take_min x.n x.numbers.now) ∙ ap (λ (k : ℕ). take k x.numbers.now) (sym c.min.ensures) in
    told (ap answer_bytes all) (answers-all (take c.min.result x.numbers.now) l.a-index (omega arith) l.invariant)
