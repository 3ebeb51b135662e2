use mathlib.Core.Path.{sym, ◌∙◌}
use Rattle.scan_steps.proofs.EitherWord.{one_reads, other_reads}
use Rattle.scan_steps.proofs.words.then_either_keyword.Goals as goal

pub returns-then-next_is_letter : goal.returns-then-next_is_letter
returns-then-next_is_letter g c =
    let word = c.then_keyword.ensures in
    record {
      reads = one_reads c.args.one.now c.args.other.now _ _ c.requires.1 c.next_is_letter.ensures c.if-next_is_letter.true word.reads;
      says = rw (sym c.next_is_letter.ensures ∙ c.if-next_is_letter.true) word.says;
    }

pub returns-else-next_is_letter : goal.returns-else-next_is_letter
returns-else-next_is_letter g c =
    let word = c.then_keyword-else-next_is_letter.ensures in
    record {
      reads = other_reads c.args.one.now c.args.other.now _ _ c.requires.1 c.next_is_letter.ensures c.if-next_is_letter.false word.reads;
      says = rw (sym c.next_is_letter.ensures ∙ c.if-next_is_letter.false) word.says;
    }
