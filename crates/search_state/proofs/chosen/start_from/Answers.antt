-- Each return rewrites with the test that led there; of two starts the later is found by comparing them.
use mathlib.Core.Path.{◌≡◌, sym, ap, ◌∙◌}
use mathlib.Core.Bool.{true, false}
use native.Mathlib.Omega.{arith}
use Rattle.definitions.specs.declared.packets.Start.{Start}
use Rattle.definitions.specs.Starts.{start_at, start_before}
use Rattle.search_state.proofs.Starting.{before_number, not_before_number}
use Rattle.search_state.proofs.chosen.start_from.Goals as goal

pub returns-then-start_before : goal.returns-then-start_before
returns-then-start_before c =
    let x = c.args in
    let start : c.start_at.result ≡ start_at x.from = c.start_at.ensures in
    let h : start_before (start_at x.from) x.b ≡ true = ap (λ (s : Start). start_before s x.b) (sym start) ∙ sym c.start_before.ensures ∙ c.if-start_before.true in
    rw c.if-not-on_bound.false (omega (arith, before_number x.from x.b h))

pub returns-else-start_before : goal.returns-else-start_before
returns-else-start_before c =
    let x = c.args in
    let start : c.start_at.result ≡ start_at x.from = c.start_at.ensures in
    let h : start_before (start_at x.from) x.b ≡ false = ap (λ (s : Start). start_before s x.b) (sym start) ∙ sym c.start_before.ensures ∙ c.if-start_before.false in
    rw c.if-not-on_bound.false (omega (arith, not_before_number x.from x.b h))
