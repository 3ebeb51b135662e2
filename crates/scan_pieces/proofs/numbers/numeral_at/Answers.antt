use mathlib.Core.Path.{sym, ◌∙◌}
use Rattle.scan_pieces.proofs.Numerals.{hex_reads, decimal_reads}
use Rattle.scan_pieces.proofs.numbers.numeral_at.Goals as goal

pub returns-then-is_hex_prefix : goal.returns-then-is_hex_prefix
returns-then-is_hex_prefix c = (hex_reads _ (sym c.is_hex_prefix.ensures ∙ c.if-is_hex_prefix.true) c.digits_at.ensures.0, c.digits_at.ensures.1)

pub returns-else-is_hex_prefix : goal.returns-else-is_hex_prefix
returns-else-is_hex_prefix c =
    let decimal = sym c.is_hex_prefix.ensures ∙ c.if-is_hex_prefix.false in
    (decimal_reads _ c.requires.0 decimal c.number_at.ensures.0, c.number_at.ensures.1)
