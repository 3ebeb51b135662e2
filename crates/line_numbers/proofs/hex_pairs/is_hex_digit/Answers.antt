-- The three ranges are those of the class (`hex_ranges`).
use Rattle.line_numbers.proofs.HexDigits.{hex_ranges}
use Rattle.line_numbers.proofs.hex_pairs.is_hex_digit.Goals as goal

pub returns : goal.returns
returns c = rw (c.is_between.ensures, c.is_between-2.ensures, c.is_between-3.ensures) (hex_ranges c.args.b)
