-- The digits of both halves stand side by side, each below 16 (`byte_is`, `byte_fits`).
use native.Mathlib.Omega.{arith}
use Rattle.line_numbers.proofs.HexDigits.{byte_is, byte_fits}
use Rattle.line_numbers.proofs.hex_pairs.pair_byte.Goals as goal

pub overflow_cast-result : goal.overflow_cast-result
overflow_cast-result c = omega (arith, byte_fits c.args.two c.requires.0 c.requires.1)

pub returns : goal.returns
returns c = byte_is c.args.two c.requires.0 c.requires.1
