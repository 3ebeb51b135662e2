use Rattle.scan_pieces.proofs.Wording.{Word}
use Rattle.scan_pieces.proofs.words.word_at.Given as goal

abbrev pub invariant-loop-i : goal.invariant-loop-i
invariant-loop-i l = Word l.s l.at l.w l.i
