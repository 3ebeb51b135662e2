use mathlib.Core.Path.{sym, ◌∙◌}
use Rattle.scan_pieces.proofs.Wording.{word_on, word_halt, word_out}
use Rattle.scan_pieces.proofs.words.word_at.Goals as goal

pub returns-then-not-starts : goal.returns-then-not-starts
returns-then-not-starts c = word_halt _ _ _ _ c.loop-i.invariant c.loop-i-test.true (sym c.starts.ensures ∙ c.if-not-starts.true)

pub loop-i-preserved : goal.loop-i-preserved
loop-i-preserved c = word_on _ _ _ _ c.loop-i.invariant c.loop-i-test.true (sym c.starts.ensures ∙ c.if-not-starts.false)

pub returns : goal.returns
returns c = word_out _ _ _ _ c.loop-i.invariant c.loop-i-test.false c.loop-i.auto.i-end
