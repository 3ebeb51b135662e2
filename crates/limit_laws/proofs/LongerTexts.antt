-- LONGER TEXTS: what is stated of two limits (specs/LongerTexts.antt) holds for any two of which the second allows more (`longer_texts`), and so for the former
-- limits and those of today (`former_kept`). Document 02, T-11.
use native.Mathlib.Omega.{arith}
use Rattle.definitions.specs.Limits.{Limits, document_limits, former_limits}
use Rattle.laws.proofs.Refusing.{limit_kept}
use Rattle.limit_laws.specs.LongerTexts.{Raised, Kept}
use Rattle.limit_laws.proofs.WidenedTables.{shaped_widened, formed_widened, canonical_widened}
use Rattle.limit_laws.proofs.WidenedReading.{read_widened}
use Rattle.limit_laws.proofs.WidenedWriting.{writes_widened, too_long_lem, line_widened}
use Rattle.limit_laws.proofs.WidenedAnswers.{placements_widened, verdict_widened, first_widened, next_widened, answers_widened}
use Rattle.limit_laws.proofs.LongerBooks.{book_accepted, rules_read, book_loaded, book_formerly, book_decides, blocks_decided}

pub longer_texts : (a b : Limits) → Raised a b → Kept a b
longer_texts a b h =
    record {
      reads = read_widened a b h;
      refuses = limit_kept a;
      shaped = λ t s. shaped_widened a.room b.room t h.room s;
      formed = λ t w. formed_widened b.room t w;
      canonical = λ t w. canonical_widened b.room t w;
      writes_same = λ t w l out. writes_widened a b h t w l out;
      writes_not = λ t w l out. too_long_lem a b h t w l out;
      lines_same = λ s n l. line_widened a b h s n l;
      placed = λ t w p decoded dir m. placements_widened b.room t w p decoded dir m;
      judged = λ t w p decoded dir m. verdict_widened b.room t w p decoded dir m;
      first = λ t w p decoded dir m. first_widened b.room t w p decoded dir m;
      next = λ t w p decoded dir m held. next_widened b.room t w p decoded dir m held;
      answered = λ t w p decoded dir m held qs. answers_widened b.room t w p decoded dir m held qs;
      accepts = book_accepted a b h;
      loads = book_loaded a b h;
      tables = λ book n e r k. read_widened a b h r.source (rules_read a b h book n e r k).short;
      decides = λ book n e p decoded dir m. book_decides a b h book n e p decoded dir m;
      decides_blocks = λ book n e block out. blocks_decided a b h book n e block out;
      formerly = book_formerly a b h;
    }

-- each of today's limits allows at least what the former one did
pub limits_raised : Raised former_limits document_limits
limits_raised = record { text = omega arith; canonical = omega arith; room = omega arith; holds = omega arith }

-- THE FORMER LIMITS AND THOSE OF TODAY
pub former_kept : Kept former_limits document_limits
former_kept = longer_texts former_limits document_limits limits_raised
