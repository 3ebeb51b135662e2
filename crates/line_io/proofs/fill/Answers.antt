-- A block is read where all of the one before is fed, and the count of its bytes is within it.
use Rattle.std.proofs.Common.{rules, refl}
use Rattle.line_io.specs.Blocks.{filled}
use Rattle.line_io.proofs.fill.Goals as goal

pub returns-in-Ok : goal.returns-in-Ok
returns-in-Ok g c = record { step = filled c.in-Ok.n c.if-s.false (search rules) refl }
