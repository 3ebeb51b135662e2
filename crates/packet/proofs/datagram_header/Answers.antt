-- Each return rewrites with what the callees ensure of the tests that led there.
use Rattle.packet.specs.Datagram.{datagram_answer}
use mathlib.Core.Path.{sym, ◌∙◌}
use Rattle.packet.proofs.datagram_header.Goals as goal

pub returns-then-is_fragment : goal.returns-then-is_fragment
unfolding datagram_answer
returns-then-is_fragment c = rw (sym c.is_fragment.ensures ∙ c.if-is_fragment.true)

pub returns-then-transport_short : goal.returns-then-transport_short
unfolding datagram_answer
returns-then-transport_short c = rw (
  sym c.is_fragment.ensures ∙ c.if-is_fragment.false,
  sym c.transport_short.ensures
      ∙ c.if-transport_short.true,
)

pub returns : goal.returns
unfolding datagram_answer
returns c = rw (
  sym c.is_fragment.ensures
      ∙ c.if-is_fragment.false,
  sym c.transport_short.ensures ∙ c.if-transport_short.false,
  c.header_of.ensures,
)
