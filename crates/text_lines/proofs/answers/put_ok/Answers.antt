-- The word, then the front of the buffer (`then`).
use Rattle.write_bytes.proofs.Putting.{then}
use Rattle.text_lines.proofs.answers.put_ok.Goals as goal

pub returns : goal.returns
returns c = then c.put_word-a1.ensures c.put_front.ensures
