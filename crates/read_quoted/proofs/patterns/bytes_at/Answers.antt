-- Each turn reads an element and stores its bytes: what is stored is what is read, and what is still to come is what the form says from here on.
use mathlib.Core.Path.{sym, ◌∙◌}
use Rattle.read_quoted.proofs.Bytes.{elements_halt, elements_less, elements_on, elements_last}
use Rattle.read_quoted.proofs.patterns.bytes_at.Goals as goal

pub returns-in_default : goal.returns-in_default
returns-in_default c = elements_halt _ _ _ c.requires c.loop-end.invariant c.element_at-e.ensures c.in_default.not-Parsed

pub returns-then-not-goes_on : goal.returns-then-not-goes_on
returns-then-not-goes_on c =
    let more = sym c.goes_on.ensures ∙ c.if-not-goes_on.true in
    rw c.in-Parsed.is (elements_last _ _ _ c.requires c.loop-end.invariant c.element_at-e.ensures c.in-Parsed.is more)

pub loop-end-smaller : goal.loop-end-smaller
loop-end-smaller c = elements_less _ _ _ c.requires c.loop-end.invariant c.element_at-e.ensures c.in-Parsed.is

pub loop-end-preserved : goal.loop-end-preserved
loop-end-preserved c =
    let more = sym c.goes_on.ensures ∙ c.if-not-goes_on.false in
    elements_on _ _ _ c.requires c.loop-end.invariant c.element_at-e.ensures c.in-Parsed.is more
