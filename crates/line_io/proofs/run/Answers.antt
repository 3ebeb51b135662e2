-- A feed called at the line begun and the state that a run has come to leads on to those that it leaves.
use Rattle.std.proofs.Common.{refl, None, Some}
use mathlib.Core.Path.{◌≡◌, ap, sym, ◌∙◌}
use Rattle.line_io.specs.States.{none}
use Rattle.line_io.proofs.Turns.{read_keeps_begun, written_takes_begun, stands, leads}
use Rattle.line_io.proofs.run.Goals as goal
use Rattle.line_io.proofs.run.Goals.{then-now, else-now}

pub loop-init : goal.loop-init
loop-init g c = stands none (ap (λ s. s.begun) c.start-s.ensures) refl

pub returns-in_default : goal.returns-in_default
returns-in_default g c = (c.loop.s.begun, c.loop.invariant)

pub returns-in_default-next : goal.returns-in_default-next
returns-in_default-next g c =
    elim c.if-now.branch [
      | then-now w ↦ (c.loop.s.begun, stands c.loop.invariant refl w.state-is)
      | else-now w ↦ (
        w.feed-fed.result.begun,
        stands (leads c.loop.invariant (read_keeps_begun c.fill.ensures.step c.in-Some.is) w.feed-fed.ensures) refl w.state-is,
      )
    ]

-- after the last line the run does not go on
pub loop-preserved : goal.loop-preserved
loop-preserved g c =
    elim c.if-now.branch [
      | then-now w ↦ absurd (let h : Some c.in-Some-next.then ≡ None = sym c.in-Some-next.is ∙ (w.next-is ∙ w.write_last-next.ensures) in cc)
      | else-now w ↦
          stands
          (leads c.loop.invariant (read_keeps_begun c.fill.ensures.step c.in-Some.is) w.feed-fed.ensures)
          (written_takes_begun w.write_fed-next.ensures.step (sym w.next-is ∙ c.in-Some-next.is))
          w.state-is
    ]

pub returns : goal.returns
returns g c = (c.loop.s.begun, c.loop.invariant)
